use Rattle.std.proofs.Common.{◌≡◌, ◌*◌, ◌≤◌, take}
use Rattle.domains.specs.Model.{total}
use Rattle.engine.proofs.state.calls.count.Given as goal

abbrev pub invariant-loop-set : goal.invariant-loop-set
invariant-loop-set l = (l.n ≡ total (take l.set-index l.d.sets)) × (l.n ≤ 64 * l.set-index)
