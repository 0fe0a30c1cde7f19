use Rattle.std.proofs.Common.{refl}
use Rattle.engine.specs.Waiting.{waiting}
use Rattle.engine.proofs.fifo.Queue.empty.Goals as goal

pub returns : goal.returns
unfolding waiting
returns g c = record { waiting = refl; len = refl; limit = refl; over = record { same = refl; filled = refl } }
