-- When the plain data stands rightly, and how operations change it.
use Rattle.std.specs.Prelude.{◌≡◌, ℕ, ◌+◌, ◌*◌, ◌<◌, ◌≤◌, Bool, true, false, ◌⊎◌, List, ◌≢◌, slice_index, slice_index_or}
use Rattle.arcs.specs.Family.{Inside, Support}
use Rattle.bits.specs.Bits.{has_bit}
use Rattle.arcs.specs.Standing.{Justified, Timed}
use Rattle.arcs.specs.Changes.{Dated, KeptOut}
use Rattle.domains.specs.declared.Arc.{Arc}
use Rattle.domains.specs.declared.Constraints.{Constraints}
use Rattle.domains.specs.declared.Domains.{Domains}
use Rattle.domains.specs.Model.{within, is_present, left_of, right_of, row, arcs_of, shown, standing, total}

-- sizes up to 64; two different ends below 32; each pair stands in both rows
pub record Shape (c : Constraints) : Type 0 where
  pub small : (i : ℕ) → slice_index c.sizes i ≤ 64
  pub left_low : (p : ℕ) → left_of c p < 32
  pub right_low : (p : ℕ) → right_of c p < 32
  pub apart : (p : ℕ) → is_present c p ≡ true → left_of c p ≢ right_of c p
  pub mirror : (p x y : ℕ) → p < 128 → x < 64 → y < 64 → has_bit (row c (2 * p + 1) y) x ≡ has_bit (row c (2 * p) x) y

-- the shown values lie inside the sizes, all others are justified, and times are apart and below the clock
pub record Sound (c : Constraints) (d : Domains) : Type 0 where
  pub inside : Inside (within c) (shown d)
  pub justified : Justified (arcs_of c) (within c) (standing d)
  pub timed : Timed (within c) (standing d) d.clock

-- values may have gone out, each at its own time; what was out before keeps its justification
pub record Went (c : Constraints) (d d' : Domains) : Type 0 where
  pub fewer : Inside (shown d) (shown d')
  pub kept : KeptOut (within c) (standing d) (standing d')
  pub dated : Dated (within c) d.clock (standing d) (standing d')
  pub spent : d'.clock + total d'.sets ≡ d.clock + total d.sets
  pub later : d.clock ≤ d'.clock
  pub idle : d'.clock ≡ d.clock → d'.sets ≡ d.sets

-- The clock rose by one for each value that went out: from what was shown in between, after some values had come back, and each of these alone has a time
-- from the clock before on.
pub record Rose (c : Constraints) (d d' : Domains) : Type 0 where
  pub between : Domains
  pub inside : Inside (within c) (shown between)
  pub spent : d'.clock + total d'.sets ≡ d.clock + total between.sets
  pub fewer : Inside (shown between) (shown d')
  pub gone : (i x : ℕ) → shown between i x ≡ true → shown d' i x ≡ false → d.clock ≤ (standing d').time i x
  pub stayed : (i x : ℕ) → within c i x ≡ true → shown between i x ≡ false → (standing d').time i x < d.clock

-- the arc is a constraint that is in, seen from the end `near`; its rows on that side hold what it lets stand beside
pub record Facing (c : Constraints) (a : Arc) : Type 0 where
  pub constraint_low : a.constraint < 128
  pub near_low : a.near < 32
  pub far_low : a.far < 32
  pub apart : a.near ≢ a.far
  pub rows_low : a.rows < 256
  pub on : (arcs_of c).on a.near a.constraint ≡ true
  pub far : (arcs_of c).far a.near a.constraint ≡ a.far
  pub on_far : (arcs_of c).on a.far a.constraint ≡ true
  pub ends : (i : ℕ) → (arcs_of c).on i a.constraint ≡ true → (i ≡ a.near) ⊎ (i ≡ a.far)
  pub far_far : (arcs_of c).far a.far a.constraint ≡ a.near
  pub fits : (x y : ℕ) → x < 64 → y < 64 → (arcs_of c).fits a.near a.constraint x y ≡ has_bit (row c a.rows x) y
  pub turned : (x y : ℕ) → x < 64 → y < 64 → (arcs_of c).fits a.far a.constraint y x ≡ has_bit (row c a.rows x) y

-- Of the values of the arc's near variable below x, exactly those without a support have gone out; nothing else has.
pub record RevisedBelow (c : Constraints) (d d' : Domains) (a : Arc) (x : ℕ) : Type 0 where
  pub supported : (k : ℕ) → k < x → shown d' a.near k ≡ true → Support (arcs_of c) (shown d) a.near a.constraint k
  pub kept : (k : ℕ) → shown d a.near k ≡ true → Support (arcs_of c) (shown d) a.near a.constraint k → shown d' a.near k ≡ true
  pub later : (k : ℕ) → x ≤ k → shown d' a.near k ≡ shown d a.near k
  pub others : (j : ℕ) → (j ≢ a.near) → slice_index d'.sets j ≡ slice_index d.sets j

-- so far on the way through the values of the arc's near variable: those below x are looked at
pub record Revising (c : Constraints) (d d' : Domains) (a : Arc) (x : ℕ) : Type 0 where
  pub sound : Sound c d'
  pub went : Went c d d'
  pub below : RevisedBelow c d d' a x

-- each value has a support under the constraint r
abbrev pub Supported : Constraints → Domains → ℕ → Type 0
Supported c d r = (i x : ℕ) → (arcs_of c).on i r ≡ true → shown d i x ≡ true → Support (arcs_of c) (shown d) i r x

-- under each constraint that is not marked, but for p, each value has a support
abbrev pub SettledBut : Constraints → Domains → List Bool → ℕ → Type 0
SettledBut c d marks p = (r : ℕ) → slice_index_or marks r false ≡ false → (r ≢ p) → Supported c d r

-- under each constraint that is not marked, each value has a support
abbrev pub Settled : Constraints → Domains → List Bool → Type 0
Settled c d marks = (r : ℕ) → slice_index_or marks r false ≡ false → Supported c d r
