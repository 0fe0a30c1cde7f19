use Rattle.arcs.proofs.Keeps.{more_keeps}
use Rattle.arcs.proofs.more_reasons_keep.Goals as goal

pub returns : goal.returns
returns c = more_keeps
