use Rattle.network.proofs.Histories.{right}
use Rattle.network.proofs.law.histories_right.Goals as goal

pub returns : goal.returns
returns c = right
