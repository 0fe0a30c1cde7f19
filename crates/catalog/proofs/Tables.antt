-- From the test of the whole table to the formula at each row.
use Rattle.std.proofs.Common.{◌≡◌, ℕ, zero, suc, ◌^◌, ◌<◌, Bool, true, false, ◌&&◌, eqb, ltb, List, [], get_or, sym, refl, ap, ◌∙◌, ⊎_elim, arith}
use Rattle.std.proofs.lemmas.Bool.{and_parts, lt-ltb, le-ltb, cases_lt, cases_eq}
use Rattle.bits.specs.Bits.{has_bit}
use Rattle.bits.proofs.Bitwise.{bit_past}
use Rattle.catalog.specs.House.{house}
use Rattle.catalog.specs.Table.{agrees, row_agrees, all_below, same}

pub at_each : (f : ℕ → Bool) (n k : ℕ) → all_below f n ≡ true → k < n → f k ≡ true
unfolding all_below
at_each f zero k e h = absurd (omega arith)
at_each f (suc n) k e h =
    ⊎_elim (λ q. ap f q ∙ (and_parts (f n) (all_below f n) e).0)
    (λ ne. at_each f n k (and_parts (f n) (all_below f n) e).1 (omega arith)) (cases_eq k n)

equal : (a b : Bool) → same a b ≡ true → a ≡ b
equal true true e = refl
equal true false e = sym e
equal false true e = e
equal false false e = refl

in_row : (p x row y : ℕ) → row_agrees p x row ≡ true → row < 2 ^ 64 → has_bit row y ≡ (ltb y 64 && house.allows p x y)
unfolding row_agrees
in_row p x row y e w =
    ⊎_elim
    (λ h. equal (has_bit row y) (house.allows p x y) (at_each (λ z. same (has_bit row z) (house.allows p x z)) 64 y e h)
    ∙ ap (λ t. t && house.allows p x y) (sym (lt-ltb y 64 h)))
    (λ h. ap (λ n. eqb n 1) (bit_past 64 row y w h) ∙ ap (λ t. t && house.allows p x y) (sym (le-ltb y 64 h))) (cases_lt y 64)

pub row_right : (rows : List (List ℕ)) (p x y : ℕ) → agrees rows ≡ true → p < 4 → x < 64 → get_or (get_or rows p []) x 0 < 2 ^ 64
    → has_bit (get_or (get_or rows p []) x 0) y ≡ (ltb y 64 && house.allows p x y)
unfolding agrees
row_right rows p x y e hp hx w =
    let of_p : all_below (λ z. row_agrees p z (get_or (get_or rows p []) z 0)) 64 ≡ true =
    at_each (λ q. all_below (λ z. row_agrees q z (get_or (get_or rows q []) z 0)) 64) 4 p e hp
    in
    in_row p x (get_or (get_or rows p []) x 0) y (at_each (λ z. row_agrees p z (get_or (get_or rows p []) z 0)) 64 x of_p hx) w
