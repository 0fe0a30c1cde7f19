-- Values that come back through their queue.
use Rattle.std.specs.Prelude.{◌≡◌, ℕ, ◌+◌, ◌≤◌, true, List, ◌++◌}
use Rattle.arcs.specs.Family.{Inside}
use Rattle.arcs.specs.Standing.{Out, Rests}
use Rattle.engine.specs.declared.fifo.Queue.{Queue}
use Rattle.engine.specs.Waiting.{waits, Kept}
use Rattle.bits.specs.Bits.{has_bit}
use Rattle.domains.specs.declared.Constraints.{Constraints}
use Rattle.domains.specs.declared.Domains.{Domains}
use Rattle.domains.specs.declared.Returning.{Returning}
use Rattle.domains.specs.Model.{within, arcs_of, shown, standing, total, reason_is}
use Rattle.domains.specs.Releasing.{Low, Releasing}

-- there is room for every value that may yet come back
pub record Spare (c : Constraints) (d : Domains) (q : Queue Returning) : Type 0 where
  pub inside : Inside (within c) (shown d)
  pub limit : q.limit ≡ 2048
  pub few : q.len ≤ total d.sets
  pub low : Low (waits q)

-- values may have come back, each through the queue once
pub record Grew (d d' : Domains) (q q' : Queue Returning) : Type 0 where
  pub clock : d'.clock ≡ d.clock
  pub why : d'.why ≡ d.why
  pub shown : Inside (shown d') (shown d)
  pub more : total d.sets ≤ total d'.sets
  pub even : q'.len + total d.sets ≡ q.len + total d'.sets
  pub kept : Kept q q'

-- the values of the variable, among those of a set, whose justification names the constraint, rest on p
abbrev pub AllRest : Constraints → ℕ → Domains → ℕ → ℕ → ℕ → Type 0
AllRest c p d variable constraint among = (x : ℕ) → Out (within c) (standing d) variable x → (standing d).reason variable x ≡ constraint → has_bit among x ≡ true → Rests (arcs_of c) (within c) (standing d) (reason_is p) variable x

-- If those rest on p, then so far only what rests on p came back, and all that did waits, after what stood before the queue.
abbrev pub FreesAmong : Constraints → Domains → Domains → List Returning → List Returning → ℕ → ℕ → ℕ → Type 0
FreesAmong c d d' w w' variable constraint among = (p : ℕ) (d₀ : Domains) (first : List Returning) → AllRest c p d₀ variable constraint among → Releasing c p d₀ d (first ++ w) → Releasing c p d₀ d' (first ++ w')
