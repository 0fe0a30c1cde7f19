use Rattle.network.proofs.Histories.{join}
use Rattle.network.proofs.law.histories_join.Goals as goal

pub returns : goal.returns
returns c = join
