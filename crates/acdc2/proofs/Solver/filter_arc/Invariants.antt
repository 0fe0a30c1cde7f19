use Rattle.std.proofs.Common.{◌≡◌}
use Rattle.acdc2.proofs.Solver.filter_arc.Given as goal

abbrev pub invariant-loop-d : goal.invariant-loop-d
invariant-loop-d g l = l.self.state.present ≡ l.fn.self.state.present
