use Rattle.std.proofs.Common.{get_or, arith}
use lib.Count.{ones-le}
use Rattle.domains.proofs.Entries.{total-take}
use Rattle.engine.proofs.state.calls.count.Goals as goal

pub loop-set-preserved : goal.loop-set-preserved
loop-set-preserved c = (
  omega (arith, total-take c.args.d.now.sets c.loop-set.set-index (omega (arith, c.args.d.now.sets_long)), c.loop-set.invariant.0),
  omega (arith, ones-le 64 (get_or c.args.d.now.sets c.loop-set.set-index 0) (c.args.d.now.wide c.loop-set.set-index), c.loop-set.invariant.1),
)
