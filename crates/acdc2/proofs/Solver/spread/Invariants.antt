use Rattle.std.proofs.Common.{◌≡◌}
use Rattle.acdc2.proofs.Solver.spread.Given as goal

abbrev pub invariant-loop-p : goal.invariant-loop-p
invariant-loop-p g l = l.self.state.present ≡ l.fn.self.state.present
