-- One value put out of a set or put into it, and how many values a set has.
use Rattle.std.proofs.Common.{◌≡◌, ℕ, zero, suc, ◌+◌, ◌*◌, ◌/◌, ◌%◌, ◌^◌, ◌<◌, ◌≤◌, Bool, true, false, not, ◌&&◌, ◌||◌, eqb, sym, refl, ap, ◌∙◌, ⊎_elim, pow-suc, arith}
use lib.Bits.{bit_or, bit_xor, xor_lt, or_lt}
use lib.Count.{ones, ones_step}
use lib.Pow.{pow-lt}
use Rattle.std.proofs.lemmas.Bool.{cases_eq, eq-eqb, eqb-true, ne_eqb}
use Rattle.bits.specs.Bits.{bit_at, has_bit}
use Rattle.bits.proofs.Bitwise.{bit_low, bit_zero, bit_suc, bit-or, bit-xor, bit_power_same, bit_power_other, has_or, has_power}

-- ---- one value less: `d ^ (1 << x)` where x is in d

pub cleared_same : (d x : ℕ) → bit_at d x ≡ 1 → bit_at (bit_xor d (2 ^ x)) x ≡ 0
cleared_same d x e = bit-xor d (2 ^ x) x ∙ omega (arith, bit_power_same x)

pub cleared_other : (d x y : ℕ) → (x ≡ y → ⊥) → bit_at (bit_xor d (2 ^ x)) y ≡ bit_at d y
cleared_other d x y ne = bit-xor d (2 ^ x) y ∙ omega (arith, bit_power_other x y ne, bit_low d y)

pub has_cleared : (d x y : ℕ) → has_bit d x ≡ true → has_bit (bit_xor d (2 ^ x)) y ≡ (has_bit d y && not (eqb x y))
has_cleared d x y e =
    ⊎_elim
    (λ q. ap (λ n. eqb n 1) (ap (λ n. bit_at (bit_xor d (2 ^ x)) n) (sym q) ∙ cleared_same d x (eqb-true (bit_at d x) 1 e))
    ∙ (let t : eqb x y ≡ true = eq-eqb x y q in rw t (sym (and_no (has_bit d y)))))
    (λ ne. ap (λ n. eqb n 1) (cleared_other d x y ne) ∙ (let t : eqb x y ≡ false = ne_eqb x y ne in rw t (sym (and_yes (has_bit d y)))))
    (cases_eq x y)
  where
    and_no : (b : Bool) → (b && false) ≡ false
    and_no true = refl
    and_no false = refl

    and_yes : (b : Bool) → (b && true) ≡ b
    and_yes true = refl
    and_yes false = refl

-- ---- one value more: `d | (1 << x)`

pub added_same : (d x : ℕ) → bit_at (bit_or d (2 ^ x)) x ≡ 1
added_same d x = bit-or d (2 ^ x) x ∙ omega (arith, bit_power_same x, bit_low d x)

pub added_other : (d x y : ℕ) → (x ≡ y → ⊥) → bit_at (bit_or d (2 ^ x)) y ≡ bit_at d y
added_other d x y ne = bit-or d (2 ^ x) y ∙ omega (arith, bit_power_other x y ne, bit_low d y)

pub has_added : (d x y : ℕ) → has_bit (bit_or d (2 ^ x)) y ≡ (has_bit d y || eqb x y)
has_added d x y = has_or d (2 ^ x) y ∙ ap (λ b. has_bit d y || b) (has_power x y)

-- ---- how many values

-- counts add up where bits do
pub ones_sum : (w a b c : ℕ) → a < 2 ^ w → b < 2 ^ w → c < 2 ^ w → ((x : ℕ) → bit_at a x + bit_at b x ≡ bit_at c x) → ones a + ones b ≡ ones c
unfolding ones
ones_sum zero a b c ha hb hc e =
    let za : a ≡ 0 = omega arith in
    let zb : b ≡ 0 = omega arith in
    let zc : c ≡ 0 = omega arith in
    rw (za, zb, zc)
ones_sum (suc w) a b c ha hb hc e =
    let low : a % 2 + b % 2 ≡ c % 2 = omega (arith, bit_zero a, bit_zero b, bit_zero c, e 0) in
    let high : ones (a / 2) + ones (b / 2) ≡ ones (c / 2) =
    ones_sum w (a / 2) (b / 2) (c / 2) (omega (arith, pow-suc 2 w)) (omega (arith, pow-suc 2 w)) (omega (arith, pow-suc 2 w))
    (λ x. omega (arith, bit_suc a x, bit_suc b x, bit_suc c x, e (suc x)))
    in
    omega (arith, ones_step a, ones_step b, ones_step c)

-- a set inside another has no more values, and fewer where one is gone
pub ones_inside : (w a b : ℕ) → a < 2 ^ w → b < 2 ^ w → ((x : ℕ) → bit_at a x ≤ bit_at b x) → ones a ≤ ones b
unfolding ones
ones_inside zero a b ha hb h =
    let za : a ≡ 0 = omega arith in
    let zb : b ≡ 0 = omega arith in
    rw (za, zb) (omega arith)
ones_inside (suc w) a b ha hb h =
    let low : a % 2 ≤ b % 2 = omega (arith, bit_zero a, bit_zero b, h 0) in
    let high : ones (a / 2) ≤ ones (b / 2) =
    ones_inside w (a / 2) (b / 2) (omega (arith, pow-suc 2 w)) (omega (arith, pow-suc 2 w))
    (λ x. omega (arith, bit_suc a x, bit_suc b x, h (suc x)))
    in
    omega (arith, ones_step a, ones_step b)

pub ones_power : (x : ℕ) → ones (2 ^ x) ≡ 1
unfolding ones
ones_power zero = refl
ones_power (suc x) = ap ones (pow-suc 2 x) ∙ omega (arith, ones_step (2 ^ x * 2), ap ones (half (2 ^ x)), ones_power x)
  where
    half : (n : ℕ) → n * 2 / 2 ≡ n
    half n = omega arith

-- with the value gone the count is one less, with a value put in one more
pub ones_cleared : (w d x : ℕ) → d < 2 ^ w → x < w → bit_at d x ≡ 1 → ones (bit_xor d (2 ^ x)) + 1 ≡ ones d
ones_cleared w d x h l e =
    let s : ones (bit_xor d (2 ^ x)) + ones (2 ^ x) ≡ ones d =
    ones_sum w (bit_xor d (2 ^ x)) (2 ^ x) d (xor_lt w d (2 ^ x) h (pow-lt l)) (pow-lt l) h
    (λ y. ⊎_elim
    (λ q. rw (← q) (omega (arith, cleared_same d x e, bit_power_same x)))
    (λ ne. omega (arith, cleared_other d x y ne, bit_power_other x y ne)) (cases_eq x y))
    in
    omega (arith, ones_power x)

pub ones_added : (w d x : ℕ) → d < 2 ^ w → x < w → bit_at d x ≡ 0 → ones (bit_or d (2 ^ x)) ≡ ones d + 1
ones_added w d x h l e =
    let s : ones d + ones (2 ^ x) ≡ ones (bit_or d (2 ^ x)) =
    ones_sum w d (2 ^ x) (bit_or d (2 ^ x)) h (pow-lt l) (or_lt w d (2 ^ x) h (pow-lt l))
    (λ y. ⊎_elim
    (λ q. rw (← q) (omega (arith, added_same d x, bit_power_same x)))
    (λ ne. omega (arith, added_other d x y ne, bit_power_other x y ne)) (cases_eq x y))
    in
    omega (arith, ones_power x)
