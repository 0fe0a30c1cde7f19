-- What a call on an engine does.
use Rattle.std.specs.Prelude.{◌≡◌, ℕ, ◌+◌, ◌<◌, ◌≤◌, min, Bool, true, false, cond, not, ◌&&◌, ◌||◌, List, Some, None, Option, ◌==◌, nat_lt, slice_index}
use Rattle.arcs.specs.Family.{Inside, Largest}
use Rattle.arcs.specs.Standing.{Out, Justified, Timed, Rests}
use Rattle.arcs.specs.Changes.{Dated, Same}
use Rattle.engine.specs.declared.fault.LoadFault.{LoadFault}
use Rattle.engine.specs.declared.fault.LoadFault.TheVariants.{NoSuchConstraint, AlreadyIn, EndOutside, SameEnds}
use Rattle.domains.specs.declared.Constraints.{Constraints}
use Rattle.domains.specs.declared.Domains.{Domains}
use Rattle.domains.specs.declared.Justification.{Justification}
use Rattle.domains.specs.Make.{no_justifications}
use Rattle.domains.specs.Model.{within, is_present, left_of, right_of, arcs_of, shown, standing, total, reason_is}
use Rattle.domains.specs.Sound.{Rose, Went}
use Rattle.domains.specs.Stands.{spent, with_present}

-- can p go in: it is not in, has two different ends, the buffer is long enough, and there is time
abbrev pub can_add : Constraints → Domains → ℕ → ℕ → Bool
can_add c d p waiting = nat_lt p 128 && (not (is_present c p) && (not (left_of c p == right_of c p) && (not (nat_lt waiting 128) && not (spent d.clock))))

-- can p go out: it is in, the buffers are long enough, and there is time
abbrev pub can_retract : Constraints → Domains → ℕ → ℕ → ℕ → Bool
can_retract c d p waiting returning = nat_lt p 128 && (is_present c p && (not (nat_lt waiting 128) && (not (nat_lt returning 2048) && not (spent d.clock))))

-- the shown values are the largest under the constraints, all others are justified, and the times are apart and below the clock
pub record Right (c : Constraints) (d : Domains) : Type 0 where
  pub largest : Largest (arcs_of c) (within c) (shown d)
  pub justified : Justified (arcs_of c) (within c) (standing d)
  pub timed : Timed (within c) (standing d) d.clock

-- p went in, and n values out, each at its own time from the clock on; what was out before keeps its justification
pub record Added (c c' : Constraints) (d d' : Domains) (p n : ℕ) : Type 0 where
  pub constraints : c' ≡ with_present c p true
  pub right : Right c' d'
  pub went : Went c' d d'
  pub count : d'.clock ≡ d.clock + n

-- p went out, and n values came back; what was out before, and does not rest on p, keeps its justification; what went out again has a time from the
-- clock on
pub record Retracted (c c' : Constraints) (d d' : Domains) (p n : ℕ) : Type 0 where
  pub constraints : c' ≡ with_present c p false
  pub right : Right c' d'
  pub grew : Inside (shown d') (shown d)
  pub kept : (i x : ℕ) → Out (within c) (standing d) i x → (Rests (arcs_of c) (within c) (standing d) (reason_is p) i x → ⊥) → Same (standing d) (standing d') i x
  pub dated : Dated (within c) d.clock (standing d) (standing d')
  pub rose : Rose c d d'
  pub later : d.clock ≤ d'.clock
  pub soon : d'.clock ≤ d.clock + 2048
  pub count : total d'.sets ≡ total d.sets + n

-- can p be given its ends and rows: it is not in, and the ends are two different variables below 32
abbrev pub can_load : Constraints → ℕ → ℕ → ℕ → Bool
can_load c p left right = nat_lt p 128 && (not (is_present c p) && (nat_lt left 32 && (nat_lt right 32 && not (left == right))))

-- why it cannot: the first cause that holds
abbrev pub load_fault : Constraints → ℕ → ℕ → ℕ → Option LoadFault
load_fault c p left right =
    cond (not (nat_lt p 128)) (Some NoSuchConstraint)
    (cond (is_present c p) (Some AlreadyIn)
    (cond (not (nat_lt left 32) || not (nat_lt right 32)) (Some EndOutside)
    (cond (left == right) (Some SameEnds) None)))

-- none is in, every value below the sizes is shown, no justification of before stands, and the clock is set; sizes past 32 are left out, and none is
-- above 64
pub record Opened (c c' : Constraints) (d' : Domains) (given : List ℕ) (time : ℕ) : Type 0 where
  pub sizes : (i : ℕ) → slice_index c'.sizes i ≡ cond (nat_lt i 32) (min 64 (slice_index given i)) 0
  pub none : (p : ℕ) → is_present c' p ≡ false
  pub ends : c'.ends ≡ c.ends
  pub rows : c'.rows ≡ c.rows
  pub all : (i x : ℕ) → shown d' i x ≡ within c' i x
  pub why : d'.why ≡ no_justifications
  pub clock : d'.clock ≡ time
  pub stands : Right c' d'

-- the justification of a value that is out, or nothing
abbrev pub justification_of : Constraints → Domains → ℕ → ℕ → Option Justification
justification_of c d i x = cond (within c i x && not (shown d i x)) (Some (record { constraint = (standing d).reason i x; time = (standing d).time i x })) None

-- a constraint may be loaded
pub record Loadable (c : Constraints) (p left right : ℕ) : Type 0 where
  pub low : p < 128
  pub absent : is_present c p ≡ false
  pub left_low : left < 32
  pub right_low : right < 32
  pub apart : left ≡ right → ⊥
