use Rattle.engine.proofs.Beside.{Beside}
use Rattle.engine.proofs.release.free_beside.Given as goal

abbrev pub invariant-loop-p : goal.invariant-loop-p
invariant-loop-p l = Beside l.c l.initial.d l.d l.initial.q l.q l.returning l.p
