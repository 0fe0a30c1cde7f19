use Rattle.std.proofs.Common.{◌≡◌, ℕ, ◌&&◌, ltb, vec_items}
use Rattle.scratch.specs.Named.{named}
use Rattle.scratch.specs.Counts.{is_inside}
use Rattle.scratch.proofs.counting.inside.Given as goal

-- those so far
abbrev pub invariant-loop-p : goal.invariant-loop-p
invariant-loop-p g l = (q : ℕ) → named (vec_items l.indices) q ≡ (ltb q l.p && is_inside (g.C.Catalog.meaning l.catalog) l.n q)
