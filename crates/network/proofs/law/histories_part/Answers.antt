use Rattle.network.proofs.Histories.{part}
use Rattle.network.proofs.law.histories_part.Goals as goal

pub returns : goal.returns
returns c = part
