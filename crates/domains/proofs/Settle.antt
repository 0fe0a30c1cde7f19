-- One constraint is visited from both ends: it is consistent then, and what else lost a support waits.
use Rattle.std.proofs.Common.{◌≡◌, ℕ, ◌<◌, Bool, true, false, not, eqb, List, get_or, set, sym, ap, ◌∙◌, subst, ⊎_elim}
use Rattle.std.proofs.lemmas.List.{get_or-set_other}
use Rattle.std.proofs.lemmas.Bool.{cases_eq, cases_Bool, both_ways, eq-eqb}
use Rattle.arcs.specs.Family.{Support}
use Rattle.bits.specs.Bits.{has_bit}
use Rattle.bits.proofs.Coded.{has_low}
use Rattle.domains.specs.declared.Arc.{Arc}
use Rattle.domains.specs.declared.Constraints.{Constraints}
use Rattle.domains.specs.declared.Domains.{Domains}
use Rattle.domains.specs.Model.{arcs_of, shown}
use Rattle.domains.specs.Sound.{Shape, Facing, Revising, Supported, Settled, SettledBut}
use Rattle.domains.proofs.Facing.{on_at_far}

shown_low : (d : Domains) → (i x : ℕ) → shown d i x ≡ true → x < 64
shown_low d i x h = has_low 64 (get_or d.sets i 0) x (d.wide i) h

-- the same sets show the same values
pub shown-set : (d d' : Domains) (j : ℕ) → get_or d'.sets j 0 ≡ get_or d.sets j 0 → (y : ℕ) → shown d' j y ≡ shown d j y
shown-set d d' j e y = ap (λ s. has_bit s y) e

-- supports that stand outside the revised variable stay
pub supported_still : (c : Constraints) (d d' : Domains) (a : Arc) (r : ℕ) → Shape c → Revising c d d' a 64 → ((arcs_of c).on a.near r ≡ true → ⊥) → Supported c d r → Supported c d' r
supported_still c d d' a r shape rev off sup i x on h =
    let s : Support (arcs_of c) (shown d) i r x = sup i x on (rev.went.fewer i x h) in
    let e : get_or d'.sets ((arcs_of c).far i r) 0 ≡ get_or d.sets ((arcs_of c).far i r) 0 =
    rev.below.others ((arcs_of c).far i r) (λ q. off (subst (λ j. (arcs_of c).on j r ≡ true) q (on_at_far c i r shape on)))
    in
    record { value = s.value; shown = shown-set d d' ((arcs_of c).far i r) e s.value ∙ s.shown; beside = s.beside }

-- after a change, with every other constraint at the variable marked
pub settled_marked : (c : Constraints) (d d' : Domains) (a : Arc) (marks marks' : List Bool) → Shape c → Revising c d d' a 64 → ((r : ℕ) → get_or marks r false ≡ true → get_or marks' r false ≡ true) → ((r : ℕ) → (arcs_of c).on a.near r ≡ true → (r ≡ a.constraint → ⊥) → get_or marks' r false ≡ true) → SettledBut c d marks a.constraint → SettledBut c d' marks' a.constraint
settled_marked c d d' a marks marks' shape rev more marked settled r un ne =
    supported_still c d d' a r shape rev (λ on. both_ways (get_or marks' r false) un (marked r on ne))
    (settled r
    (⊎_elim (λ t. absurd (both_ways (get_or marks' r false) un (more r t))) (λ t. t) (cases_Bool (get_or marks r false)))
    ne)

-- the visited constraint is consistent: what went out at the second end supported nothing at the first
module _ (c : Constraints) (d d' d'' : Domains) (a b : Arc) (fa : Facing c a) (fb : Facing c b) (near : b.near ≡ a.far) (same : b.constraint ≡ a.constraint) (ra : Revising c d d' a 64) (rb : Revising c d' d'' b 64) where
  far_back : b.far ≡ a.near
  far_back =
      sym fb.far ∙ ap (λ j. (arcs_of c).far j b.constraint) near ∙ ap (λ p. (arcs_of c).far a.far p) same ∙ fa.far_far

  near_kept : (x : ℕ) → shown d'' a.near x ≡ shown d' a.near x
  near_kept x = shown-set d' d'' a.near (rb.below.others a.near (λ e. fa.apart (e ∙ near))) x

  far_kept : (y : ℕ) → shown d' a.far y ≡ shown d a.far y
  far_kept y = shown-set d d' a.far (ra.below.others a.far (λ e. fa.apart (sym e))) y

  -- a support at the first end is one at the second, turned round
  turn : (x y : ℕ) → x < 64 → y < 64 → (arcs_of c).fits a.near a.constraint x y ≡ true → (arcs_of c).fits b.near b.constraint y x ≡ true
  turn x y h k e =
      ap (λ j. (arcs_of c).fits j b.constraint y x) near ∙ ap (λ p. (arcs_of c).fits a.far p y x) same
      ∙ fa.turned x y h k ∙ sym (fa.fits x y h k) ∙ e

  at_near : (x : ℕ) → shown d'' a.near x ≡ true → Support (arcs_of c) (shown d'') a.near a.constraint x
  at_near x h =
      let h' : shown d' a.near x ≡ true = sym (near_kept x) ∙ h in
      let low : x < 64 = shown_low d' a.near x h' in
      let s : Support (arcs_of c) (shown d) a.near a.constraint x = ra.below.supported x low h' in
      let y : ℕ = s.value in
      let there : shown d' a.far y ≡ true = far_kept y ∙ ap (λ j. shown d j y) (sym fa.far) ∙ s.shown in
      let there' : shown d' b.near y ≡ true = ap (λ j. shown d' j y) near ∙ there in
      let ylow : y < 64 = shown_low d' a.far y there in
      let t : Support (arcs_of c) (shown d') b.near b.constraint y =
      record {
        value = x;
        shown = ap (λ j. shown d' j x) (fb.far ∙ far_back) ∙ h';
        beside = turn x y low ylow s.beside;
      }
      in
      record {
        value = y;
        shown = ap (λ j. shown d'' j y) (fa.far ∙ sym near) ∙ rb.below.kept y there' t;
        beside = s.beside;
      }

  at_far : (y : ℕ) → shown d'' b.near y ≡ true → Support (arcs_of c) (shown d'') b.near b.constraint y
  at_far y h =
      let low : y < 64 = shown_low d'' b.near y h in
      let s : Support (arcs_of c) (shown d') b.near b.constraint y = rb.below.supported y low h in
      let e : (arcs_of c).far b.near b.constraint ≡ a.near = fb.far ∙ far_back in
      record {
        value = s.value;
        shown = ap (λ j. shown d'' j s.value) e ∙ near_kept s.value ∙ ap (λ j. shown d' j s.value) (sym e) ∙ s.shown;
        beside = s.beside;
      }

  pub visited : Supported c d'' a.constraint
  visited i x on h =
      ⊎_elim
      (λ e. rw e (at_near x (rw e at h)))
      (λ e. let f : i ≡ b.near = e ∙ sym near in
      rw f (rw (← same) (at_far x (rw f at h))))
      (fa.ends i on)

-- a visited constraint is settled with the others
pub settled_all : (c : Constraints) (d : Domains) (marks : List Bool) (p : ℕ) → Supported c d p → SettledBut c d marks p → Settled c d marks
settled_all c d marks p sup settled r un =
    ⊎_elim (λ e. rw e sup) (λ ne. settled r un ne) (cases_eq r p)

pub changed_yes : (a b : ℕ) → true ≡ not (eqb a b) → a ≡ b → ⊥
changed_yes a b e f = both_ways (not (eqb a b)) (ap not (eq-eqb a b f)) (sym e)

-- one constraint is unmarked
pub settled_unmark : (c : Constraints) (d : Domains) (marks : List Bool) (p : ℕ) → Settled c d marks → SettledBut c d (set marks p false) p
settled_unmark c d marks p settled r un ne = settled r (sym (get_or-set_other marks p r false false ne) ∙ un)
