use Rattle.domains.specs.Sound.{Revising}
use Rattle.engine.proofs.revise.revise.Given as goal

abbrev pub invariant-loop-x : goal.invariant-loop-x
invariant-loop-x l = Revising l.c l.initial.d l.d l.arc l.x
