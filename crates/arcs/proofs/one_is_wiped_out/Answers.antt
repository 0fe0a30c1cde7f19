use Rattle.arcs.proofs.Unique.{one_wiped_out}
use Rattle.arcs.proofs.one_is_wiped_out.Goals as goal

pub returns : goal.returns
returns c = one_wiped_out
