use Rattle.std.proofs.Common.{◌≡◌, ◌*◌, ◌≤◌}
use Rattle.scratch.specs.Counts.{pair_count}
use Rattle.scratch.proofs.counting.pairs_below.Given as goal

-- so many so far
abbrev pub invariant-loop-x : goal.invariant-loop-x
invariant-loop-x g l = (l.n ≡ pair_count (g.C.Catalog.meaning l.catalog) l.p l.right_size l.x) × (l.n ≤ 64 * l.x)
