use Rattle.std.proofs.Common.{◌≡◌, ℕ, ◌<◌, ◌≤◌, ◌&&◌, ltb, length, get_or}
use Rattle.bits.specs.Bits.{has_bit}
use Rattle.catalog.specs.Meaning.{allowed}
use Rattle.catalog.proofs.supports.rows.Given as goal

-- the rows below x are as they should be, and the others are empty
abbrev pub invariant-loop-x : goal.invariant-loop-x
invariant-loop-x g l = record {
  long : length l.entry-items ≡ 64;
  done : (z y : ℕ) → z < l.x → has_bit (get_or l.entry-items z 0) y ≡ (ltb z l.left_size && (ltb y l.right_size && allowed (g.C.Catalog.meaning l.catalog) l.p z y));
  later : (z : ℕ) → l.x ≤ z → get_or l.entry-items z 0 ≡ 0;
}
