-- On the way of putting back what rests on a constraint.
use Rattle.std.specs.Prelude.{◌≡◌, ℕ, ◌<◌, true, ◌⊎◌, List, [], ◌∷◌}
use Rattle.arcs.specs.Standing.{Out, Justified, Rests}
use Rattle.domains.specs.declared.Constraints.{Constraints}
use Rattle.domains.specs.declared.Domains.{Domains}
use Rattle.domains.specs.declared.Returning.{Returning}
use Rattle.domains.specs.Model.{within, arcs_of, shown, standing, reason_is}

-- the value x of i stands in the list
abbrev pub Stands : List Returning → ℕ → ℕ → Type 0
Stands [] i x = ⊥
Stands (e ∷ w) i x = ((e.variable ≡ i) × (e.value ≡ x)) ⊎ Stands w i x

-- each entry names a variable below 32 and a value below 64
abbrev pub Low : List Returning → Type 0
Low [] = Unit {0}
Low (e ∷ w) = (e.variable < 32) × (e.value < 64) × Low w

-- the value x of i was out and is back
pub record Back (c : Constraints) (d d' : Domains) (i x : ℕ) : Type 0 where
  pub out : Out (within c) (standing d) i x
  pub back : shown d' i x ≡ true

-- each value whose reason let the value y of j stand beside it is back
abbrev pub Followed : Constraints → Domains → Domains → ℕ → ℕ → Type 0
Followed c d d' j y = (i x : ℕ) → Out (within c) (standing d) i x → (arcs_of c).far i ((standing d).reason i x) ≡ j → (arcs_of c).fits i ((standing d).reason i x) x y ≡ true → shown d' i x ≡ true

-- Of what is out in d, only values that rest on p are back in d', with no justification altered; those in the list w are yet to be followed.
pub record Releasing (c : Constraints) (p : ℕ) (d d' : Domains) (w : List Returning) : Type 0 where
  pub justified : Justified (arcs_of c) (within c) (standing d)
  pub shown_still : (i x : ℕ) → shown d i x ≡ true → shown d' i x ≡ true
  pub why : d'.why ≡ d.why
  pub only : (i x : ℕ) → Back c d d' i x → Rests (arcs_of c) (within c) (standing d) (reason_is p) i x
  pub waiting : (i x : ℕ) → Stands w i x → Back c d d' i x
  pub done : (i x : ℕ) → Back c d d' i x → Stands w i x ⊎ Followed c d d' i x
