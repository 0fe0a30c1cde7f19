use Rattle.std.proofs.Common.{arith}
use Rattle.runner.proofs.Leading.{going_on}
use Rattle.runner.proofs.running.Running.make_all.Goals as goal

pub loop-before-preserved : goal.loop-before-preserved
loop-before-preserved g c =
    let made = c.make-outcome in
    let pushed = c.push_reserved in
    going_on g.C.Catalog.meaning c.args.self.now c.loop-before.self made.new.self c.args.moves.now c.loop-before.before _ c.loop-before.outcomes pushed.new.self made.result (omega arith)
    c.loop-before.invariant made.ensures pushed.ensures.items pushed.ensures.len pushed.ensures.capacity
