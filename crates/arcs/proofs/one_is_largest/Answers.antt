use Rattle.arcs.proofs.Unique.{one_largest}
use Rattle.arcs.proofs.one_is_largest.Goals as goal

pub returns : goal.returns
returns c = one_largest
