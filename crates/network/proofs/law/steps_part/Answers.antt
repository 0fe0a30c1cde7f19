use Rattle.network.proofs.Histories.{steps_part}
use Rattle.network.proofs.law.steps_part.Goals as goal

pub returns : goal.returns
returns c = steps_part
