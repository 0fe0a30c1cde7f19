-- That constraints and domains stand rightly is a fact, not data: it can be kept in a ghost field and taken out again.
use Rattle.std.proofs.Common.{◌≡◌, ℕ, ◌<◌, ◌≤◌, true, get_or, sym, subst₂, ⊎_elim, arith}
use mathlib.Core.Bool.{Bool-set}
use mathlib.Core.HLevel.{Π_prop, ×_prop, ⊥_prop}
use mathlib.Core.Logic.{∥∥₁_elim}
use native.Mathlib.Nat.{ℕ_set}
use native.Mathlib.Bridge.{le_prop}
use lib.Bits.{bit_and}
use Rattle.std.proofs.lemmas.Bool.{cases_eq}
use Rattle.arcs.specs.Family.{Family, Support, Largest}
use Rattle.bits.proofs.Coded.{has_low}
use Rattle.arcs.specs.Standing.{Standing, Accounts, Timed}
use Rattle.arcs.proofs.Reach.{justified_largest}
use Rattle.domains.specs.declared.Constraints.{Constraints}
use Rattle.domains.specs.declared.Domains.{Domains}
use Rattle.domains.specs.Model.{within, row, arcs_of, shown, standing}
use Rattle.domains.specs.Sound.{Shape, Sound}
use Rattle.domains.specs.Stands.{Stands}
use Rattle.domains.proofs.Facing.{Seen, seen}
use Rattle.domains.proofs.Revise.{support_yes, support_no}

le : {a b : ℕ} → IsProp (a ≤ b)
le = le_prop

pub shape_prop : (c : Constraints) → IsProp (Shape c)
shape_prop c x y i =
    record {
      small = Π_prop (λ _. le) x.small y.small i;
      left_low = Π_prop (λ _. le) x.left_low y.left_low i;
      right_low = Π_prop (λ _. le) x.right_low y.right_low i;
      apart = Π_prop (λ _. Π_prop (λ _. Π_prop (λ _. ⊥_prop))) x.apart y.apart i;
      mirror = Π_prop (λ _. Π_prop (λ _. Π_prop (λ _. Π_prop (λ _. Π_prop (λ _. Π_prop (λ _. Bool-set _ _)))))) x.mirror y.mirror i;
    }

accounts_prop : (c : Constraints) (s : Standing) (i x r t : ℕ) → IsProp (Accounts (arcs_of c) (within c) s i x r t)
accounts_prop c s i x r t a b k =
    record {
      on = Bool-set _ _ a.on b.on k;
      gone = Π_prop (λ _. Π_prop (λ _. Π_prop (λ _. Bool-set _ _))) a.gone b.gone k;
      before = Π_prop (λ _. Π_prop (λ _. Π_prop (λ _. le))) a.before b.before k;
    }

timed_prop : (b : Family) (s : Standing) (clock : ℕ) → IsProp (Timed b s clock)
timed_prop b s clock x y i =
    record {
      below = Π_prop (λ _. Π_prop (λ _. Π_prop (λ _. le))) x.below y.below i;
      apart =
          Π_prop (λ _. Π_prop (λ _. Π_prop (λ _. Π_prop (λ _. Π_prop (λ _. Π_prop (λ _. Π_prop (λ _. ×_prop (ℕ_set _ _) (ℕ_set _ _)))))))) x.apart y.apart i;
    }

pub sound_prop : (c : Constraints) (d : Domains) → IsProp (Sound c d)
sound_prop c d x y i =
    record {
      inside = Π_prop (λ _. Π_prop (λ _. Π_prop (λ _. Bool-set _ _))) x.inside y.inside i;
      justified = Π_prop (λ j. Π_prop (λ z. Π_prop (λ _. accounts_prop c (standing d) j z _ _))) x.justified y.justified i;
      timed = timed_prop (within c) (standing d) d.clock x.timed y.timed i;
    }

-- a support that cannot be wanting is found
find_support : (c : Constraints) (d : Domains) → Shape c → (i r x : ℕ) → (arcs_of c).on i r ≡ true → x < 64 → ((Support (arcs_of c) (shown d) i r x → ⊥) → ⊥) → Support (arcs_of c) (shown d) i r x
find_support c d shape i r x on low some =
    let s : Seen c i r = seen c i r shape on in
    let P : ℕ → ℕ → Type 0 = λ j p. Support (arcs_of c) (shown d) j p x in
    let n : ℕ = bit_and (get_or d.sets s.arc.far 0) (row c s.arc.rows x) in
    subst₂ P s.near s.constraint
    (⊎_elim
    (λ z. absurd (some (λ h. support_no c d s.arc s.facing x low z (subst₂ P (sym s.near) (sym s.constraint) h))))
    (λ nz. support_yes c d s.arc s.facing x low (omega arith))
    (cases_eq n 0))

pub stands_out : (c : Constraints) (d : Domains) → ∥ Stands c d ∥₁ → Stands c d
stands_out c d t =
    let shape : Shape c = ∥∥₁_elim t (shape_prop c) (λ s. s.shape) in
    let sound : Sound c d = ∥∥₁_elim t (sound_prop c d) (λ s. s.sound) in
    record {
      shape = shape;
      sound = sound;
      consistent = λ i r x on h.
          find_support c d shape i r x on (has_low 64 (get_or d.sets i 0) x (d.wide i) h)
          (λ no. ∥∥₁_elim t ⊥_prop (λ s. no (s.consistent i r x on h)));
    }

-- what stands rightly is largest
pub stands_largest : (c : Constraints) (d : Domains) → Stands c d → Largest (arcs_of c) (within c) (shown d)
stands_largest c d s =
    justified_largest (arcs_of c) (within c) (standing d) s.sound.justified s.sound.inside s.consistent
