use Rattle.network.proofs.Histories.{are_steps}
use Rattle.network.proofs.law.histories_are_steps.Goals as goal

pub returns : goal.returns
returns c = are_steps
