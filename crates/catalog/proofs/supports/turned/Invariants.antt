use Rattle.std.proofs.Common.{◌≡◌, ℕ, ◌<◌, length, get_or}
use Rattle.bits.specs.Bits.{has_bit}
use Rattle.catalog.proofs.supports.turned.Given as goal

-- the rows below y are turned
abbrev pub invariant-loop-y : goal.invariant-loop-y
invariant-loop-y l = record {
  long : length l.entry-items ≡ 64;
  done : (x z : ℕ) → z < l.y → has_bit (get_or l.entry-items z 0) x ≡ has_bit (get_or l.rows x 0) z;
}
