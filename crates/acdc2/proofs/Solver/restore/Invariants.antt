use Rattle.std.proofs.Common.{◌≡◌}
use Rattle.acdc2.proofs.Solver.restore.Given as goal

abbrev pub invariant-loop : goal.invariant-loop
invariant-loop g l = l.self.state.present ≡ l.fn.self.state.present
