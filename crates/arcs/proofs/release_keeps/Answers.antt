use Rattle.arcs.proofs.Keeps.{release_keeps}
use Rattle.arcs.proofs.release_keeps.Goals as goal

pub returns : goal.returns
returns c = release_keeps
