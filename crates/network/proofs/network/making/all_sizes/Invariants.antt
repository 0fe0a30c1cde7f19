use Rattle.std.proofs.Common.{◌≡◌, ℕ, ◌<◌, ◌≤◌, length, get_or}
use Rattle.network.proofs.network.making.all_sizes.Given as goal

-- the sizes below i are as they should be
abbrev pub invariant-loop-i : goal.invariant-loop-i
invariant-loop-i l = record {
  long : length l.size-items ≡ 32;
  done : (k : ℕ) → k < l.i → get_or l.sizes k 0 ≤ 64 → get_or l.size-items k 0 ≡ get_or l.sizes k 0;
}
