use Rattle.std.proofs.Common.{◌≡◌, drop, length, take}
use Rattle.sheet_format.specs.Writing.{new_writer}
use Rattle.sheet.specs.Calls.{Runs, all_put, Stands}
use Rattle.sheet.proofs.calls.write.Given as goal

-- the calls so far were made, and what they put stands in the buffer; their answers alone are written
abbrev pub invariant-loop-i : goal.invariant-loop-i
invariant-loop-i l = record {
  runs : Runs new_writer l.fn.buffer (take l.i l.call-items) (take l.i l.answers) l.writer l.buffer;
  stands : Stands (all_put (take l.i l.call-items) (take l.i l.answers)) l.writer l.buffer;
  long : length l.answers ≡ length l.fn.answers;
  others : drop l.i l.answers ≡ drop l.i l.fn.answers;
}
