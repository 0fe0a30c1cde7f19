use Rattle.std.proofs.Common.{◌≡◌, ℕ, ◌+◌, ◌-◌, ◌*◌, ◌≤◌}
use Rattle.arcs.specs.Family.{Inside}
use Rattle.engine.specs.Waiting.{Kept, waits}
use Rattle.domains.specs.declared.Domains.{Domains}
use Rattle.domains.specs.Model.{shown, total}
use Rattle.domains.specs.Releasing.{Releasing}
use Rattle.engine.specs.Returns.{Spare}
use Rattle.engine.proofs.release.release.Given as goal

abbrev pub invariant-loop-returning : goal.invariant-loop-returning
invariant-loop-returning l =
    Spare l.c l.d l.q
    × (l.d.clock ≡ l.initial.d.clock)
    × Inside (shown l.d) (shown l.initial.d)
    × (total l.initial.d.sets ≤ total l.d.sets)
    × Kept l.initial.q l.q
    × ((p : ℕ) (d₀ : Domains) → Releasing l.c p d₀ l.initial.d (waits l.initial.q) → Releasing l.c p d₀ l.d (waits l.q))

abbrev pub decreases-loop-returning : goal.decreases-loop-returning
decreases-loop-returning l = 2 * (2048 - total l.d.sets) + l.q.len
