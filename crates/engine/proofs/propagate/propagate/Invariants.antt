use Rattle.std.proofs.Common.{◌+◌, ◌*◌}
use Rattle.engine.specs.Waiting.{Kept}
use Rattle.domains.specs.Model.{total}
use Rattle.domains.specs.Sound.{Settled, Sound, Went}
use Rattle.engine.specs.Queued.{Queued}
use Rattle.engine.proofs.propagate.propagate.Given as goal

abbrev pub invariant-loop-p : goal.invariant-loop-p
invariant-loop-p l =
    Sound l.c l.d
    × Went l.c l.initial.d l.d
    × Queued l.q l.marks
    × Kept l.initial.q l.q
    × Settled l.c l.d l.marks

abbrev pub decreases-loop-p : goal.decreases-loop-p
decreases-loop-p l = 129 * total l.d.sets + l.q.len
