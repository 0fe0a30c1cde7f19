use Rattle.arcs.proofs.Exists.{some_largest}
use Rattle.arcs.proofs.some_is_largest.Goals as goal

pub returns : goal.returns
returns c = some_largest
