use Rattle.std.proofs.Common.{◌≡◌, ℕ, ◌<◌, true, false, Some, get_or}
use Rattle.engine.specs.Waiting.{Kept}
use Rattle.domains.specs.Model.{arcs_of}
use Rattle.engine.specs.Queued.{Queued}
use Rattle.engine.proofs.propagate.enqueue_at.Given as goal

abbrev pub invariant-loop-p : goal.invariant-loop-p
invariant-loop-p l =
    Queued l.q l.marks
    × Kept l.initial.q l.q
    × ((k : ℕ) → get_or l.initial.marks k false ≡ true → get_or l.marks k false ≡ true)
    × ((k : ℕ) → k < l.p → (arcs_of l.c).on l.variable k ≡ true → (Some k ≡ l.except → ⊥) → get_or l.marks k false ≡ true)
