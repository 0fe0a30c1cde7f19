use Rattle.arcs.proofs.Reach.{out_of_every}
use Rattle.arcs.proofs.justified_is_out_of_every.Goals as goal

pub returns : goal.returns
returns c = out_of_every
