use Rattle.std.proofs.Common.{◌≡◌}
use Rattle.acdc2.proofs.Solver.filter.Given as goal

abbrev pub invariant-loop-arc : goal.invariant-loop-arc
invariant-loop-arc g l = l.self.state.present ≡ l.fn.self.state.present

abbrev pub invariant-loop : goal.invariant-loop
invariant-loop g l = l.self.state.present ≡ l.fn.self.state.present
