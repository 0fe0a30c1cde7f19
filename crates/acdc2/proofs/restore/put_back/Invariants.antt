use Rattle.std.proofs.Common.{◌≡◌}
use Rattle.acdc2.proofs.restore.put_back.Given as goal

abbrev pub invariant-loop-d : goal.invariant-loop-d
invariant-loop-d g l = l.state.present ≡ l.fn.state.present
