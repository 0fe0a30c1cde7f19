use Rattle.std.specs.Fmt.{HasWritten, IsPlainFormatter}
use Rattle.bits.specs.Text.{values_below}
use Rattle.bits.proofs.values.ValuesDisplay.fmt.Given as goal

abbrev pub invariant-loop-x : goal.invariant-loop-x
invariant-loop-x g l = IsPlainFormatter l.initial.f → HasWritten g.W.Write.write_str_gives l.initial.f (values_below l.self.0 l.x-counter) l.f
