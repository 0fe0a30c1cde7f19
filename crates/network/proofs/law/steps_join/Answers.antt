use Rattle.network.proofs.Histories.{steps_join}
use Rattle.network.proofs.law.steps_join.Goals as goal

pub returns : goal.returns
returns c = steps_join
