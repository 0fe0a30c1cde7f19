-- Two factors of two bytes times values of one byte, added.
use Rattle.std.proofs.Common.{◌≡◌, ℕ, suc, ◌*◌, ◌^◌, ◌<◌, ◌≤◌, ℤ, pos, negsuc, ◌+ℤ◌, ◌*ℤ◌, ◌≤ℤ◌, ap, ◌∙◌, mul-le-mul, arith, w16, w64, SFits, to_z, of_z}
use Rattle.std.proofs.lemmas.Int.{ints, to_z-of_z}

-- at most 32,768 times at most 255
few : (n x : ℕ) → n ≤ 32768 → x < 256 → n * x ≤ 8388607
few n x h k = let j : n * x ≤ 32768 * 255 = mul-le-mul h (let i : x ≤ 255 = omega arith in i) in omega arith

pub low_product : (m : ℤ) (x : ℕ) → SFits w16 m → x < 256 → negsuc 8388607 ≤ℤ (m *ℤ pos x)
low_product (pos n) x f h = grind (arith, ints)
low_product (negsuc n) x f h = let i : n < 2 ^ 15 = f.sfits in let j : suc n * x ≤ 8388607 = few (suc n) x (omega arith) h in grind (arith, ints)

pub high_product : (m : ℤ) (x : ℕ) → SFits w16 m → x < 256 → (m *ℤ pos x) ≤ℤ pos 8388607
high_product (pos n) x f h = let i : n < 2 ^ 15 = f.sfits in let j : n * x ≤ 8388607 = few n x (omega arith) h in grind (arith, ints)
high_product (negsuc n) x f h = grind (arith, ints)

wide_fits : (z : ℤ) → negsuc 16777215 ≤ℤ z → z ≤ℤ pos 16777214 → SFits w64 z
wide_fits (pos n) l h = record { sfits = (let j : n ≤ 16777214 = grind (arith, ints) in omega arith) }
wide_fits (negsuc n) l h = record { sfits = (let j : n ≤ 16777215 = grind (arith, ints) in omega arith) }

-- the sum as the code has it
coded_total : (a b : ℤ) → negsuc 8388607 ≤ℤ a → a ≤ℤ pos 8388607 → negsuc 8388607 ≤ℤ b → b ≤ℤ pos 8388607
    → to_z w64 (of_z w64 (to_z w64 (of_z w64 a) +ℤ to_z w64 (of_z w64 b))) ≡ a +ℤ b
coded_total a b al ah bl bh =
    let a_low : negsuc 16777215 ≤ℤ a = omega (arith, ints) in
    let a_high : a ≤ℤ pos 16777214 = omega (arith, ints) in
    let b_low : negsuc 16777215 ≤ℤ b = omega (arith, ints) in
    let b_high : b ≤ℤ pos 16777214 = omega (arith, ints) in
    let low : negsuc 16777215 ≤ℤ (a +ℤ b) = omega (arith, ints) in
    let high : (a +ℤ b) ≤ℤ pos 16777214 = omega (arith, ints) in
    ap (λ z. to_z w64 (of_z w64 (z +ℤ to_z w64 (of_z w64 b)))) (to_z-of_z w64 a (wide_fits a a_low a_high))
    ∙ ap (λ z. to_z w64 (of_z w64 (a +ℤ z))) (to_z-of_z w64 b (wide_fits b b_low b_high))
    ∙ to_z-of_z w64 (a +ℤ b) (wide_fits (a +ℤ b) low high)

-- with the factors as the code has them
pub total_of : (m k : ℤ) (x y : ℕ) (a b : ℤ) → SFits w16 m → SFits w16 k
    → negsuc 8388607 ≤ℤ a → a ≤ℤ pos 8388607 → negsuc 8388607 ≤ℤ b → b ≤ℤ pos 8388607
    → a ≡ to_z w16 (of_z w16 m) *ℤ pos x → b ≡ to_z w16 (of_z w16 k) *ℤ pos y
    → to_z w64 (of_z w64 (to_z w64 (of_z w64 a) +ℤ to_z w64 (of_z w64 b))) ≡ m *ℤ pos x +ℤ k *ℤ pos y
total_of m k x y a b fm fk al ah bl bh ea eb =
    coded_total a b al ah bl bh
    ∙ ap (λ z. z +ℤ b) (ea ∙ ap (λ z. z *ℤ pos x) (to_z-of_z w16 m fm))
    ∙ ap (λ z. m *ℤ pos x +ℤ z) (eb ∙ ap (λ z. z *ℤ pos y) (to_z-of_z w16 k fk))
