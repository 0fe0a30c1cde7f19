use Rattle.network.proofs.Histories.{steps_right}
use Rattle.network.proofs.law.steps_right.Goals as goal

pub returns : goal.returns
returns c = steps_right
