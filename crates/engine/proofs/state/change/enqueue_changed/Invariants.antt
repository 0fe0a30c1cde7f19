use Rattle.std.proofs.Common.{◌≡◌, ℕ, ◌<◌, true, false, length, get_or}
use Rattle.engine.specs.Waiting.{Kept}
use Rattle.domains.specs.Model.{arcs_of}
use Rattle.engine.specs.Queued.{Queued}
use Rattle.engine.proofs.state.change.enqueue_changed.Given as goal

abbrev pub invariant-loop-i : goal.invariant-loop-i
invariant-loop-i l =
    (goal.iterator-loop-i).can_next l.i-iterator × (goal.iterator-loop-i).is_finite l.i-iterator ×
    Queued l.q l.marks
    × Kept l.initial.q l.q
    × ((k r : ℕ) → k < length l.yielded → (get_or l.after k 0 ≡ get_or l.before k 0 → ⊥) → (arcs_of l.c).on k r ≡ true → get_or l.marks r false ≡ true)
