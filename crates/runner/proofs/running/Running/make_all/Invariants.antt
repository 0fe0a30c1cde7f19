use Rattle.runner.proofs.Leading.{Going}
use Rattle.runner.proofs.running.Running.make_all.Given as goal

-- the moves so far were made
abbrev pub invariant-loop-before : goal.invariant-loop-before
invariant-loop-before g l = Going g.C.Catalog.meaning l.initial.self l.moves l.before l.outcomes l.self
