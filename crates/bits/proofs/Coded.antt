-- The bits of what code computes: `(d >> x) & 1`, `1 << x`, `d ^ (1 << x)`, `d | (1 << x)`, `(1 << n) - 1`.
use Rattle.std.proofs.Common.{◌≡◌, ℕ, ◌-◌, ◌*◌, ◌/◌, ◌%◌, ◌^◌, ◌<◌, ◌≤◌, true, not, ◌&&◌, ◌||◌, eqb, ltb, sym, refl, ap, ◌∙◌, arith, pow_pos}
use lib.Bits.{bit_and, bit_or, bit_xor, and_mask}
use Rattle.std.proofs.lemmas.Nat.{one_shl}
use Rattle.std.proofs.lemmas.Bool.{eqb-true, le-ltb}
use Rattle.std.proofs.lemmas.Bool.Decides.{nat_tests}
use Rattle.bits.specs.Bits.{bit_at, has_bit}
use Rattle.bits.proofs.Bitwise.{has_mask, has_past, bit_past}
use Rattle.bits.proofs.Edits.{has_cleared, has_added}

-- `(d >> x) & 1`
pub code_bit : (d x : ℕ) → bit_and (d / 2 ^ x) 1 ≡ bit_at d x
unfolding bit_at
code_bit d x = and_mask (d / 2 ^ x) 1

-- `(d >> x) & 1 == 1`
pub code_has : (d x : ℕ) → eqb (bit_and (d / 2 ^ x) 1) 1 ≡ has_bit d x
code_has d x = ap (λ n. eqb n 1) (code_bit d x)

-- a value of a set of w bits lies below w
pub has_low : (w d x : ℕ) → d < 2 ^ w → has_bit d x ≡ true → x < w
has_low w d x h e = let b : bit_at d x ≡ 1 = eqb-true (bit_at d x) 1 e in let f : w ≤ x → bit_at d x ≡ 0 = bit_past w d x h in grind arith

pub has_width : (d x : ℕ) → d < 2 ^ 64 → has_bit d x ≡ true → x < 64
has_width d x h e = has_low 64 d x h e

-- past the width no value is in
pub past_has : (d x : ℕ) → d < 2 ^ 64 → 64 ≤ x → ltb x 64 ≡ has_bit d x
past_has d x h k = le-ltb x 64 k ∙ sym (has_past 64 d x h k)

-- `d ^ (1 << x)` where x is in d
pub code_cleared : (d x y : ℕ) → x < 64 → has_bit d x ≡ true → has_bit (bit_xor d ((1 * 2 ^ x) % 2 ^ 64)) y ≡ (has_bit d y && not (eqb x y))
code_cleared d x y h e = ap (λ n. has_bit (bit_xor d n) y) (one_shl x 64 h) ∙ has_cleared d x y e

-- `d | (1 << x)`
pub code_added : (d x y : ℕ) → x < 64 → has_bit (bit_or d ((1 * 2 ^ x) % 2 ^ 64)) y ≡ (has_bit d y || (eqb x y && ltb x 64))
code_added d x y h = ap (λ n. has_bit (bit_or d n) y) (one_shl x 64 h) ∙ has_added d x y ∙ ap (λ b. has_bit d y || b) (grind (arith, nat_tests))

-- `(1 << n) - 1`
pub code_below : (n y : ℕ) → n < 64 → has_bit ((1 * 2 ^ n) % 2 ^ 64 - 1) y ≡ (ltb y n && ltb y 64)
code_below n y h =
    ap (λ m. has_bit (m - 1) y) (one_shl n 64 h) ∙ has_mask n (2 ^ n - 1) y (omega (arith, pow_pos n))
    ∙ grind (arith, nat_tests)

-- the mask of the whole width
pub all_below : (n y : ℕ) → 64 ≤ n → has_bit 18446744073709551615 y ≡ (ltb y n && ltb y 64)
all_below n y h = has_mask 64 18446744073709551615 y refl ∙ grind (arith, nat_tests)
