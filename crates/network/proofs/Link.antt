-- The engine's constraints beside the catalog's.
use Rattle.std.proofs.Common.{◌≡◌, ℕ, Bool, true, false, cond, ◌&&◌, ◌||◌, eqb, ltb, List, length, get_or, take, sym, refl, ap, ◌∙◌, ⊎_elim, arith}
use native.Mathlib.Nat.{min-le_left}
use Rattle.std.proofs.lemmas.List.{get_or-take, get_or_past, length-take, length-take-le}
use Rattle.std.proofs.lemmas.Bool.{cases_Bool, cases_eq, cases_lt, and_parts, lt-ltb, eqb-true, eq-eqb, ne_eqb, or_cases, cond-true, cond-false}
use Rattle.arcs.specs.Family.{within_sizes}
use Rattle.catalog.specs.Meaning.{Meaning, Lawful, allowed}
use Rattle.catalog.specs.Constraints.{arcs_of}
use Rattle.domains.specs.declared.Constraints.{Constraints}
use Rattle.domains.specs.Model.{within, is_present, left_of, right_of, pair_at, arcs_of as arcs_in}
use Rattle.network.specs.Alike.{Alike}
use Rattle.network.specs.Model.{Known, Links}

module _ (m : Meaning) (lawful : Lawful m) (c : Constraints) (n : ℕ) (known : List Bool) (links : Links m c n known) where
  knows : (p : ℕ) → is_present c p ≡ true → Known m c p
  knows p h = links.means p (links.present p h)

  same_on : (i p : ℕ) → (arcs_of m (is_present c)).on i p ≡ (arcs_in c).on i p
  same_on i p =
      ⊎_elim
      (λ h.
      let k : Known m c p = knows p h in
      let low : ltb p 128 ≡ true = lt-ltb p 128 (omega (arith, k.is_one, lawful.few)) in
      let one : ltb p m.count ≡ true = lt-ltb p m.count k.is_one in
      ap (λ b. b && (ltb p m.count && (eqb (m.left p) i || eqb (m.right p) i))) h
      ∙ ap (λ b. b && (eqb (m.left p) i || eqb (m.right p) i)) one
      ∙ ap (λ l. eqb l i || eqb (m.right p) i) (sym k.left)
      ∙ ap (λ r. eqb (left_of c p) i || eqb r i) (sym k.right)
      ∙ sym (ap (λ b. b && (eqb (left_of c p) i || eqb (right_of c p) i)) h)
      ∙ sym (ap (λ b. b && (is_present c p && (eqb (left_of c p) i || eqb (right_of c p) i))) low))
      (λ h.
      ap (λ b. b && (ltb p m.count && (eqb (m.left p) i || eqb (m.right p) i))) h
      ∙ sym (ap (λ b. ltb p 128 && (b && (eqb (left_of c p) i || eqb (right_of c p) i))) h ∙ none (ltb p 128)))
      (cases_Bool (is_present c p))
    where
      none : (b : Bool) → (b && false) ≡ false
      none true = refl
      none false = refl

  on_known : (i p : ℕ) → (arcs_in c).on i p ≡ true → Known m c p
  on_known i p on = knows p (and_parts (is_present c p) _ (and_parts (ltb p 128) _ on).1).0

  on_end : (i p : ℕ) → (arcs_in c).on i p ≡ true → (eqb (left_of c p) i || eqb (right_of c p) i) ≡ true
  on_end i p on = (and_parts (is_present c p) _ (and_parts (ltb p 128) _ on).1).1

  same_far : (i p : ℕ) → (arcs_in c).on i p ≡ true → (arcs_of m (is_present c)).far i p ≡ (arcs_in c).far i p
  same_far i p on =
      let k : Known m c p = on_known i p on in
      ap (λ l. cond (eqb l i) (m.right p) l) (sym k.left) ∙ ap (λ r. cond (eqb (left_of c p) i) r (left_of c p)) (sym k.right)

  same_fits : (i p x y : ℕ) → (arcs_in c).on i p ≡ true → within c i x ≡ true → within c ((arcs_in c).far i p) y ≡ true → (arcs_of m (is_present c)).fits i p x y ≡ (arcs_in c).fits i p x y
  same_fits i p x y on bx by =
      let k : Known m c p = on_known i p on in
      ap (λ l. cond (eqb l i) (allowed m p x y) (allowed m p y x)) (sym k.left)
      ∙ ⊎_elim
      (λ e.
      let t : eqb (left_of c p) i ≡ true = eq-eqb (left_of c p) i e in
      let far : (arcs_in c).far i p ≡ m.right p = cond-true (eqb (left_of c p) i) (right_of c p) (left_of c p) t ∙ k.right in
      cond-true (eqb (left_of c p) i) (allowed m p x y) (allowed m p y x) t
      ∙ sym (k.rows x y (ap (λ j. within c j x) (sym k.left ∙ e) ∙ bx) (ap (λ j. within c j y) (sym far) ∙ by))
      ∙ sym (cond-true (eqb (left_of c p) i) (pair_at c p x y) (pair_at c p y x) t))
      (λ ne.
      let t : eqb (left_of c p) i ≡ false = ne_eqb (left_of c p) i ne in
      let e : right_of c p ≡ i = ⊎_elim (λ l. absurd (ne (eqb-true (left_of c p) i l))) (λ r. eqb-true (right_of c p) i r) (or_cases (eqb (left_of c p) i) (eqb (right_of c p) i) (on_end i p on)) in
      let far : (arcs_in c).far i p ≡ m.left p = cond-false (eqb (left_of c p) i) (right_of c p) (left_of c p) t ∙ k.left in
      cond-false (eqb (left_of c p) i) (allowed m p x y) (allowed m p y x) t
      ∙ sym (k.rows y x (ap (λ j. within c j y) (sym far) ∙ by) (ap (λ j. within c j x) (sym k.right ∙ e) ∙ bx))
      ∙ sym (cond-false (eqb (left_of c p) i) (pair_at c p x y) (pair_at c p y x) t))
      (cases_eq (left_of c p) i)

  pub alike : Alike (within c) (arcs_in c) (arcs_of m (is_present c))
  alike = record { on = same_on; far = same_far; fits = same_fits }

  -- the sizes of the variables alone give the same sizes, and the same bound
  pub same_size : (i : ℕ) → get_or (take n c.sizes) i 0 ≡ get_or c.sizes i 0
  same_size i =
      ⊎_elim (λ l. get_or-take n c.sizes i 0 l)
      (λ g. get_or_past (take n c.sizes) i 0 (omega (arith, length-take n c.sizes, min-le_left n (length c.sizes))) ∙ sym (links.past i g)) (cases_lt i n)

  pub same_bound : within_sizes (take n c.sizes) ≡ within c
  same_bound k i x = ltb x (same_size i k)

  pub variables_are : length c.sizes ≡ 32 → length (take n c.sizes) ≡ n
  variables_are long = length-take-le n c.sizes (omega (arith, links.few))
