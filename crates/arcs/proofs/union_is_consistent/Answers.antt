use Rattle.arcs.proofs.Unique.{union_consistent}
use Rattle.arcs.proofs.union_is_consistent.Goals as goal

pub returns : goal.returns
returns c = union_consistent
