use Rattle.std.proofs.Common.{◌≡◌, drop}
use Rattle.scratch.specs.Refused.{indices_refusal}
use Rattle.scratch.proofs.accept.check_indices.Given as goal

abbrev pub invariant-loop-p : goal.invariant-loop-p
invariant-loop-p g l =
    indices_refusal (g.C.Catalog.meaning l.catalog) l.n (drop l.p-index l.indices)
    ≡ indices_refusal (g.C.Catalog.meaning l.catalog) l.n l.indices
