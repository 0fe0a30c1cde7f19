use Rattle.arcs.proofs.Keeps.{put_out_keeps}
use Rattle.arcs.proofs.put_out_keeps.Goals as goal

pub returns : goal.returns
returns c = put_out_keeps
