use Rattle.engine.proofs.Frees.{Among}
use Rattle.engine.proofs.release.free_among.Given as goal

abbrev pub invariant-loop-x : goal.invariant-loop-x
invariant-loop-x l = Among l.c l.initial.d l.d l.initial.q l.q l.variable l.constraint l.among l.x
