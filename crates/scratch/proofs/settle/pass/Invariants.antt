use Rattle.scratch.specs.Settling.{Swept}
use Rattle.scratch.proofs.settle.pass.Given as goal

abbrev pub invariant-loop-place : goal.invariant-loop-place
invariant-loop-place l = Swept l.arcs l.stale l.place-index l.initial.domains l.domains l.next
