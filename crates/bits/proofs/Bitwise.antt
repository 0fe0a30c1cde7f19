-- The bits of `&`, `|`, `^`, of a power of two and of a mask; equality by bits.
use Rattle.std.proofs.Common.{◌≡◌, ℕ, zero, suc, ◌+◌, ◌/◌, ◌%◌, ◌^◌, ◌<◌, ◌≤◌, min, max, true, false, ◌&&◌, ◌||◌, eqb, ltb, ◌⊎◌, sym, refl, ap, ◌∙◌, ⊎_elim, le_trans, mod-lt, zero-lt-suc, pow-suc, div-one, arith, pow_pos, pow_mono}
use native.Mathlib.Nat.{div-div-eq-div-mul, pow-succ', div-eq_of_lt}
use lib.Bits.{bit_and, bit_or, bit_xor, and_shr, or_shr, xor_shr, and_step, or_step, xor_add_and}
use Rattle.std.proofs.lemmas.Bool.{and_parts, and_from, eq-eqb, eqb-true, ne_eqb, lt-ltb, le-ltb, cases_eq, cases_lt}
use Rattle.std.proofs.lemmas.Bool.Decides.{nat_tests}
use Rattle.bits.specs.Bits.{bit_at, has_bit}

-- a bit is 0 or 1
pub bit_low : (d x : ℕ) → bit_at d x < 2
unfolding bit_at
bit_low d x = mod-lt (d / 2 ^ x) (zero-lt-suc 1)

pub bit_cases : (d x : ℕ) → (bit_at d x ≡ 0) ⊎ (bit_at d x ≡ 1)
bit_cases d x = let h : bit_at d x < 2 = bit_low d x in grind arith

-- the lowest bit, and the others
pub bit_zero : (d : ℕ) → bit_at d 0 ≡ d % 2
unfolding bit_at
bit_zero d = ap (λ n. n % 2) (div-one d)

pub bit_suc : (d x : ℕ) → bit_at d (suc x) ≡ bit_at (d / 2) x
unfolding bit_at
bit_suc d x = ap (λ n. n % 2) (ap (λ n. d / n) (pow-succ' 2 x) ∙ sym (div-div-eq-div-mul d 2 (2 ^ x)))

-- ---- the operations

pub bit-and : (a b x : ℕ) → bit_at (bit_and a b) x ≡ min (bit_at a x) (bit_at b x)
unfolding bit_at
bit-and a b x = ap (λ n. n % 2) (and_shr a b x ∙ and_step (a / 2 ^ x) (b / 2 ^ x)) ∙ omega arith

pub bit-or : (a b x : ℕ) → bit_at (bit_or a b) x ≡ max (bit_at a x) (bit_at b x)
unfolding bit_at
bit-or a b x = ap (λ n. n % 2) (or_shr a b x ∙ or_step (a / 2 ^ x) (b / 2 ^ x)) ∙ omega arith

pub bit-xor : (a b x : ℕ) → bit_at (bit_xor a b) x ≡ (bit_at a x + bit_at b x) % 2
unfolding bit_at
bit-xor a b x = ap (λ n. n % 2) (xor_shr a b x) ∙ omega (arith, xor_add_and (a / 2 ^ x) (b / 2 ^ x))

pub has_and : (a b x : ℕ) → has_bit (bit_and a b) x ≡ (has_bit a x && has_bit b x)
has_and a b x =
    ap (λ n. eqb n 1) (bit-and a b x)
    ∙ (let h : bit_at a x < 2 = bit_low a x in let k : bit_at b x < 2 = bit_low b x in grind (arith, nat_tests))

pub has_or : (a b x : ℕ) → has_bit (bit_or a b) x ≡ (has_bit a x || has_bit b x)
has_or a b x =
    ap (λ n. eqb n 1) (bit-or a b x)
    ∙ (let h : bit_at a x < 2 = bit_low a x in let k : bit_at b x < 2 = bit_low b x in grind (arith, nat_tests))

-- ---- past the width
pub bit_past : (w d x : ℕ) → d < 2 ^ w → w ≤ x → bit_at d x ≡ 0
unfolding bit_at
bit_past w d x h k = ap (λ n. n % 2) (div-eq_of_lt (le_trans h (pow_mono k)))

pub bit_of_zero : (x : ℕ) → bit_at 0 x ≡ 0
bit_of_zero x = bit_past 0 0 x (omega arith) (omega arith)

-- ---- a power of two, a mask
pub bit_power_same : (x : ℕ) → bit_at (2 ^ x) x ≡ 1
bit_power_same zero = bit_zero 1
bit_power_same (suc x) = bit_suc (2 ^ suc x) x ∙ ap (λ n. bit_at n x) (ap (λ n. n / 2) (pow-suc 2 x) ∙ omega arith) ∙ bit_power_same x

pub bit_power_other : (k x : ℕ) → (k ≡ x → ⊥) → bit_at (2 ^ k) x ≡ 0
bit_power_other zero zero h = absurd (h refl)
bit_power_other zero (suc x) h = bit_suc 1 x ∙ bit_of_zero x
bit_power_other (suc k) zero h = bit_zero (2 ^ suc k) ∙ ap (λ n. n % 2) (pow-suc 2 k) ∙ omega arith
bit_power_other (suc k) (suc x) h =
    bit_suc (2 ^ suc k) x ∙ ap (λ n. bit_at n x) (ap (λ n. n / 2) (pow-suc 2 k) ∙ omega arith)
    ∙ bit_power_other k x (λ e. h (ap suc e))

pub has_power : (k x : ℕ) → has_bit (2 ^ k) x ≡ eqb k x
has_power k x =
    ⊎_elim (λ e. ap (λ n. eqb n 1) (ap (λ n. bit_at (2 ^ k) n) (sym e) ∙ bit_power_same k) ∙ sym (eq-eqb k x e))
    (λ ne. ap (λ n. eqb n 1) (bit_power_other k x ne) ∙ sym (ne_eqb k x ne)) (cases_eq k x)

-- the mask of n ones is the number m with m + 1 ≡ 2 ^ n
pub bit_mask_low : (n m x : ℕ) → m + 1 ≡ 2 ^ n → x < n → bit_at m x ≡ 1
bit_mask_low zero m x e h = absurd (omega arith)
bit_mask_low (suc n) m zero e h = bit_zero m ∙ omega (arith, e ∙ pow-suc 2 n)
bit_mask_low (suc n) m (suc x) e h =
    let f : m / 2 + 1 ≡ 2 ^ n = omega (arith, e ∙ pow-suc 2 n, pow_pos n) in
    bit_suc m x ∙ bit_mask_low n (m / 2) x f (omega arith)

pub bit_mask_high : (n m x : ℕ) → m + 1 ≡ 2 ^ n → n ≤ x → bit_at m x ≡ 0
bit_mask_high n m x e h = bit_past n m x (omega arith) h

pub has_mask : (n m x : ℕ) → m + 1 ≡ 2 ^ n → has_bit m x ≡ ltb x n
has_mask n m x e =
    ⊎_elim (λ h. ap (λ b. eqb b 1) (bit_mask_low n m x e h) ∙ sym (lt-ltb x n h))
    (λ h. ap (λ b. eqb b 1) (bit_mask_high n m x e h) ∙ sym (le-ltb x n h)) (cases_lt x n)

-- ---- equality by bits, and a bit of what is not 0
pub same_bits : (w a b : ℕ) → a < 2 ^ w → b < 2 ^ w → ((x : ℕ) → x < w → bit_at a x ≡ bit_at b x) → a ≡ b
same_bits zero a b h k e = omega arith
same_bits (suc w) a b h k e =
    let low : a % 2 ≡ b % 2 = sym (bit_zero a) ∙ e 0 (omega arith) ∙ bit_zero b in
    let ha : a / 2 < 2 ^ w = omega (arith, pow-suc 2 w) in
    let hb : b / 2 < 2 ^ w = omega (arith, pow-suc 2 w) in
    let high : a / 2 ≡ b / 2 = same_bits w (a / 2) (b / 2) ha hb (λ x l. sym (bit_suc a x) ∙ e (suc x) (omega arith) ∙ bit_suc b x) in
    omega arith

pub some_bit : (w d : ℕ) → d < 2 ^ w → 0 < d → (x : ℕ) × (x < w) × (bit_at d x ≡ 1)
some_bit zero d h p = absurd (omega arith)
some_bit (suc w) d h p =
    ⊎_elim (λ e. (0, omega arith, bit_zero d ∙ e))
    (λ ne.
    let s : (x : ℕ) × (x < w) × (bit_at (d / 2) x ≡ 1) = some_bit w (d / 2) (omega (arith, pow-suc 2 w)) (omega arith) in
    (suc s.0, omega arith, bit_suc d s.0 ∙ s.2))
    (cases_eq (d % 2) 1)

-- a number with a bit is not 0
pub bit_positive : (d x : ℕ) → bit_at d x ≡ 1 → 0 < d
bit_positive zero x e = absurd (omega (arith, bit_of_zero x))
bit_positive (suc d) x e = zero-lt-suc d

-- a number has no more bits than it counts
lt_power : (n : ℕ) → n < 2 ^ n
lt_power zero = omega arith
lt_power (suc n) = omega (arith, lt_power n, pow-suc 2 n)

-- two sets share a value exactly when their `&` is not 0
pub meet : (a b : ℕ) → 0 < bit_and a b → (x : ℕ) × (has_bit a x ≡ true) × (has_bit b x ≡ true)
meet a b p =
    let s : (x : ℕ) × (x < bit_and a b) × (bit_at (bit_and a b) x ≡ 1) = some_bit (bit_and a b) (bit_and a b) (lt_power (bit_and a b)) p in
    let t : (has_bit a s.0 && has_bit b s.0) ≡ true = sym (has_and a b s.0) ∙ eq-eqb (bit_at (bit_and a b) s.0) 1 s.2 in
    let u : (has_bit a s.0 ≡ true) × (has_bit b s.0 ≡ true) = and_parts (has_bit a s.0) (has_bit b s.0) t in
    (s.0, u.0, u.1)

pub share : (w a b : ℕ) → a < 2 ^ w → 0 < bit_and a b → (x : ℕ) × (has_bit a x ≡ true) × (has_bit b x ≡ true)
share w a b h p = meet a b p

pub share_positive : (a b x : ℕ) → has_bit a x ≡ true → has_bit b x ≡ true → 0 < bit_and a b
share_positive a b x p q =
    bit_positive (bit_and a b) x (eqb-true (bit_at (bit_and a b) x) 1 (has_and a b x ∙ and_from (has_bit a x) (has_bit b x) p q))

-- a set inside another is the smaller number
pub inside_le : (w a b : ℕ) → a < 2 ^ w → ((x : ℕ) → bit_at a x ≤ bit_at b x) → a ≤ b
inside_le zero a b h e = omega arith
inside_le (suc w) a b h e =
    let low : a % 2 ≤ b % 2 = omega (arith, bit_zero a, bit_zero b, e 0) in
    let high : a / 2 ≤ b / 2 =
    inside_le w (a / 2) (b / 2) (omega (arith, pow-suc 2 w)) (λ x. omega (arith, bit_suc a x, bit_suc b x, e (suc x)))
    in
    omega arith

-- a bit is no more than another where the one value's being in implies the other's
pub has_le : (a b x : ℕ) → (has_bit a x ≡ true → has_bit b x ≡ true) → bit_at a x ≤ bit_at b x
has_le a b x h = ⊎_elim (λ z. omega arith) (λ o. let t : bit_at b x ≡ 1 = eqb-true (bit_at b x) 1 (h (eq-eqb (bit_at a x) 1 o)) in omega arith) (bit_cases a x)

-- past the width no value is in
pub has_past : (w d x : ℕ) → d < 2 ^ w → w ≤ x → has_bit d x ≡ false
has_past w d x h k = ap (λ n. eqb n 1) (bit_past w d x h k)

pub has_of_zero : (x : ℕ) → has_bit 0 x ≡ false
has_of_zero x = ap (λ n. eqb n 1) (bit_of_zero x)
