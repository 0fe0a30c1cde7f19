use Rattle.std.proofs.Common.{◌≡◌, ℕ, Some, arith}
use Rattle.domains.proofs.Settle.{settled_marked, changed_yes}
use Rattle.engine.proofs.propagate.settle.Goals as goal

some_one : (p r : ℕ) → Some p ≡ Some r → p ≡ r
some_one p r e = grind arith

pub returns-then-revise : goal.returns-then-revise
returns-then-revise c =
    record {
      revised = c.revise.ensures.revised;
      queued = c.enqueue_at.ensures.queued;
      kept = c.enqueue_at.ensures.kept;
      settled =
          settled_marked c.args.c.now c.args.d.now c.revise.new.d c.args.arc c.args.marks.now c.enqueue_at.new.marks
          c.requires.shape c.revise.ensures.revised c.enqueue_at.ensures.more (λ r on ne. c.enqueue_at.ensures.waits r on (λ e. ne (some_one r c.args.arc.constraint e))) c.requires.settled;
      idle = λ e. absurd (changed_yes c.revise.new.d.clock c.args.d.now.clock c.if-revise.ensures.changed e);
    }
