-- A row shares a value with the set of one value just when it has that value.
use Rattle.std.proofs.Common.{◌≡◌, ℕ, ◌^◌, ◌<◌, true, false, ◌&&◌, ◌||◌, eqb, ltb, sym, ap, ◌∙◌, ⊎_elim, arith}
use lib.Bits.{bit_and}
use Rattle.std.proofs.lemmas.Bool.{lt-ltb, le-ltb, cases_lt, eqb-true}
use Rattle.std.proofs.lemmas.Bool.Decides.{nat_tests}
use Rattle.bits.specs.Bits.{has_bit}
use Rattle.bits.proofs.Bitwise.{has_and, has_past, has_of_zero, meet}

pub alone_meets : (r m y : ℕ) → r < 2 ^ 64 → ((z : ℕ) → has_bit m z ≡ (has_bit 0 z || (eqb y z && ltb y 64))) → ltb 0 (bit_and r m) ≡ has_bit r y
alone_meets r m y h e =
    ⊎_elim
    (λ p.
    let s : (x : ℕ) × (has_bit r x ≡ true) × (has_bit m x ≡ true) = meet r m p in
    let o : has_bit 0 s.0 ≡ false = has_of_zero s.0 in
    let k : has_bit m s.0 ≡ (has_bit 0 s.0 || (eqb y s.0 && ltb y 64)) = e s.0 in
    let q : eqb y s.0 ≡ true = grind (arith, nat_tests) in
    let a : y ≡ s.0 = eqb-true y s.0 q in
    lt-ltb 0 (bit_and r m) p ∙ sym (ap (λ n. has_bit r n) a ∙ s.1))
    (λ p.
    let z : bit_and r m ≡ 0 = omega arith in
    let a : has_bit (bit_and r m) y ≡ (has_bit r y && has_bit m y) = has_and r m y in
    let b : has_bit (bit_and r m) y ≡ false = ap (λ n. has_bit n y) z ∙ has_of_zero y in
    let o : has_bit 0 y ≡ false = has_of_zero y in
    let k : has_bit m y ≡ (has_bit 0 y || (eqb y y && ltb y 64)) = e y in
    le-ltb 0 (bit_and r m) p
    ∙ ⊎_elim
    (λ l. let d : ltb y 64 ≡ true = lt-ltb y 64 l in grind (arith, nat_tests))
    (λ g. sym (has_past 64 r y h g))
    (cases_lt y 64))
    (cases_lt 0 (bit_and r m))
