use Rattle.std.proofs.Common.{◌≡◌, ℕ, ◌<◌, ◌≤◌, false, get_or}
use Rattle.bits.specs.Bits.{has_bit}
use Rattle.catalog.proofs.supports.column.Given as goal

-- the rows below x are looked at, and no other is in the column
abbrev pub invariant-loop-x : goal.invariant-loop-x
invariant-loop-x l = record {
  done : (z : ℕ) → z < l.x → has_bit l.column z ≡ has_bit (get_or l.rows z 0) l.y;
  later : (z : ℕ) → l.x ≤ z → has_bit l.column z ≡ false;
}
