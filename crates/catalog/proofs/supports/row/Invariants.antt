use Rattle.std.proofs.Common.{◌≡◌, ℕ, ◌<◌, ◌≤◌, false}
use Rattle.bits.specs.Bits.{has_bit}
use Rattle.catalog.specs.Meaning.{allowed}
use Rattle.catalog.proofs.supports.row.Given as goal

-- the values below y are as they should be, and no other is in the row
abbrev pub invariant-loop-y : goal.invariant-loop-y
invariant-loop-y g l = record {
  done : (z : ℕ) → z < l.y → has_bit l.row z ≡ allowed (g.C.Catalog.meaning l.catalog) l.p l.x z;
  later : (z : ℕ) → l.y ≤ z → has_bit l.row z ≡ false;
}
