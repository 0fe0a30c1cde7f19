use Rattle.arcs.proofs.Reach.{justified_largest}
use Rattle.arcs.proofs.justified_is_largest.Goals as goal

pub returns : goal.returns
returns c = justified_largest
