use Rattle.std.proofs.Common.{◌≡◌, length}
use Rattle.sheet_format.specs.Decoding.{rows_in}
use Rattle.sheet.proofs.copying.rows_of.Given as goal

-- the rows so far
abbrev pub invariant-loop-k : goal.invariant-loop-k
invariant-loop-k l = (l.rows.items ≡ rows_in l.k l.bytes) × (length l.rows.items ≡ l.k)
