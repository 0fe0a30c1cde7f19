-- A constraint that is in, seen from its left end and from its right end.
use Rattle.std.proofs.Common.{◌≡◌, ℕ, ◌+◌, ◌*◌, ◌<◌, true, false, ◌&&◌, ◌||◌, eqb, ltb, ◌⊎◌, sym, refl, ap, ◌∙◌, inl, inr, ⊎_elim, arith}
use Rattle.std.proofs.lemmas.Bool.{and_from, and_parts, or_cases, eqb-true, or_left, or_right, lt-ltb, ltb-true, eq-eqb, ne_eqb, cond-true, cond-false}
use Rattle.bits.specs.Bits.{has_bit}
use Rattle.domains.specs.declared.Arc.{Arc}
use Rattle.domains.specs.declared.Constraints.{Constraints}
use Rattle.domains.specs.Model.{is_present, left_of, right_of, row, pair_at, arcs_of}
use Rattle.domains.specs.Sound.{Shape, Facing}

module _ (c : Constraints) (p : ℕ) (shape : Shape c) (low : p < 128) (present : is_present c p ≡ true) where
  private_apart : eqb (left_of c p) (right_of c p) ≡ false
  private_apart = ne_eqb (left_of c p) (right_of c p) (shape.apart p present)

  pub on_left : (arcs_of c).on (left_of c p) p ≡ true
  on_left =
      and_from (ltb p 128) _ (lt-ltb p 128 low)
      (and_from (is_present c p) _ present (or_left (eqb (left_of c p) (left_of c p)) _ (eq-eqb (left_of c p) (left_of c p) refl)))

  pub on_right : (arcs_of c).on (right_of c p) p ≡ true
  on_right =
      and_from (ltb p 128) _ (lt-ltb p 128 low)
      (and_from (is_present c p) _ present (or_right (eqb (left_of c p) (right_of c p)) _ (eq-eqb (right_of c p) (right_of c p) refl)))

  far_left : (arcs_of c).far (left_of c p) p ≡ right_of c p
  far_left = cond-true (eqb (left_of c p) (left_of c p)) _ _ (eq-eqb (left_of c p) (left_of c p) refl)

  far_right : (arcs_of c).far (right_of c p) p ≡ left_of c p
  far_right = cond-false (eqb (left_of c p) (right_of c p)) _ _ private_apart

  pair_row : (x y : ℕ) → x < 64 → pair_at c p x y ≡ has_bit (row c (2 * p) x) y
  unfolding pair_at
  pair_row x y h = ap (λ b. b && has_bit (row c (2 * p) x) y) (lt-ltb x 64 h)

  fits_left : (x y : ℕ) → (arcs_of c).fits (left_of c p) p x y ≡ pair_at c p x y
  fits_left x y = cond-true (eqb (left_of c p) (left_of c p)) _ _ (eq-eqb (left_of c p) (left_of c p) refl)

  fits_right : (x y : ℕ) → (arcs_of c).fits (right_of c p) p x y ≡ pair_at c p y x
  fits_right x y = cond-false (eqb (left_of c p) (right_of c p)) _ _ private_apart

  -- a constraint ties its two ends and no other variable
  pub ends_of : (i : ℕ) → (arcs_of c).on i p ≡ true → (i ≡ left_of c p) ⊎ (i ≡ right_of c p)
  ends_of i h =
      let a : (is_present c p && (eqb (left_of c p) i || eqb (right_of c p) i)) ≡ true = (and_parts (ltb p 128) _ h).1 in
      ⊎_elim (λ e. inl (sym (eqb-true (left_of c p) i e))) (λ e. inr (sym (eqb-true (right_of c p) i e)))
      (or_cases (eqb (left_of c p) i) (eqb (right_of c p) i) (and_parts (is_present c p) _ a).1)

  pub facing_left : Facing c (record { constraint = p; near = left_of c p; far = right_of c p; rows = 2 * p })
  facing_left =
      record {
        constraint_low = low;
        near_low = shape.left_low p;
        far_low = shape.right_low p;
        apart = shape.apart p present;
        rows_low = omega arith;
        on = on_left;
        far = far_left;
        on_far = on_right;
        far_far = far_right;
        ends = ends_of;
        fits = λ x y h _. fits_left x y ∙ pair_row x y h;
        turned = λ x y h _. fits_right y x ∙ pair_row x y h;
      }

  pub facing_right : Facing c (record { constraint = p; near = right_of c p; far = left_of c p; rows = 2 * p + 1 })
  facing_right =
      record {
        constraint_low = low;
        near_low = shape.right_low p;
        far_low = shape.left_low p;
        apart = λ e. shape.apart p present (sym e);
        rows_low = omega arith;
        on = on_right;
        far = far_right;
        on_far = on_left;
        far_far = far_left;
        ends = λ i h. ⊎_elim (λ e. inr e) (λ e. inl e) (ends_of i h);
        fits = λ x y h k. fits_right x y ∙ pair_row y x k ∙ sym (shape.mirror p y x low k h);
        turned = λ x y h k. fits_left y x ∙ pair_row y x k ∙ sym (shape.mirror p y x low k h);
      }

-- what a reason that is on says of its constraint
pub on_low : (c : Constraints) (i p : ℕ) → (arcs_of c).on i p ≡ true → p < 128
on_low c i p h = ltb-true p 128 (and_parts (ltb p 128) _ h).0

pub on_present : (c : Constraints) (i p : ℕ) → (arcs_of c).on i p ≡ true → is_present c p ≡ true
on_present c i p h =
    let a : (is_present c p && (eqb (left_of c p) i || eqb (right_of c p) i)) ≡ true = (and_parts (ltb p 128) _ h).1 in
    (and_parts (is_present c p) _ a).0

-- the arc of a reason that is on
pub record Seen (c : Constraints) (i p : ℕ) : Type 0 where
  pub arc : Arc
  pub facing : Facing c arc
  pub near : arc.near ≡ i
  pub constraint : arc.constraint ≡ p

pub seen : (c : Constraints) (i p : ℕ) → Shape c → (arcs_of c).on i p ≡ true → Seen c i p
seen c i p shape h =
    let low : p < 128 = on_low c i p h in
    let pr : is_present c p ≡ true = on_present c i p h in
    ⊎_elim
    (λ e. record { arc = _; facing = facing_left c p shape low pr; near = sym e; constraint = refl })
    (λ e. record { arc = _; facing = facing_right c p shape low pr; near = sym e; constraint = refl })
    (ends_of c p shape low pr i h)

-- a reason is on at its far end too
pub on_at_far : (c : Constraints) (i p : ℕ) → Shape c → (arcs_of c).on i p ≡ true → (arcs_of c).on ((arcs_of c).far i p) p ≡ true
on_at_far c i p shape h =
    let low : p < 128 = on_low c i p h in
    let pr : is_present c p ≡ true = on_present c i p h in
    ⊎_elim
    (λ e. rw e (rw (far_left c p shape low pr) (on_right c p shape low pr)))
    (λ e. rw e (rw (far_right c p shape low pr) (on_left c p shape low pr)))
    (ends_of c p shape low pr i h)

-- a constraint ties variables below 32
pub tied_low : (c : Constraints) (i p : ℕ) → Shape c → (arcs_of c).on i p ≡ true → i < 32
tied_low c i p shape on =
    ⊎_elim (λ e. omega (arith, e, shape.left_low p)) (λ e. omega (arith, e, shape.right_low p))
    (ends_of c p shape (on_low c i p on) (on_present c i p on) i on)
