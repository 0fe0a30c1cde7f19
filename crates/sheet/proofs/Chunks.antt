-- The rows of a table as chunks of eight bytes, and what a shift leaves of a row.
use Rattle.std.proofs.Common.{◌≡◌, ℕ, zero, suc, ◌+◌, ◌*◌, ◌<◌, ◌≤◌, ◌/◌, ◌^◌, true, ◌&&◌, eqb, ltb, List, [], ◌∷◌, ◌++◌, length, take, drop, refl, sym, ap, ◌∙◌, ⊎_elim, le_trans, get_or, lit<, arith, pow_pos, pow_mono}
use Rattle.std.specs.List.{list_all}
use Rattle.std.specs.Simd.{first_chunks}
use Rattle.std.proofs.lemmas.Bool.{lt-ltb, le-ltb, eq-eqb, ne_eqb, cases_lt}
use Rattle.std.proofs.lemmas.List.{get_or-take}
use Rattle.std.proofs.lemmas.Nat.{div_below, le-div}
use Rattle.sheet_format.specs.Numbers.{number8}
use Rattle.sheet_format.specs.Verdict.{rows_good}
use Rattle.sheet_format.specs.Decoding.{rows_in}
use Rattle.sheet_law.proofs.NumberLaws.{number8-drop}

-- the row that the first eight bytes are
pub first_row : (xs : List ℕ) → number8 (take 8 xs) 0 ≡ number8 xs 0
first_row xs =
    let at : (i : ℕ) → i < 8 → get_or (take 8 xs) i 0 ≡ get_or xs i 0 = λ i h. get_or-take 8 xs i 0 h in
    let a = at 0 (lit< tt) in
    let b = at 1 (lit< tt) in
    let c = at 2 (lit< tt) in
    let d = at 3 (lit< tt) in
    let e = at 4 (lit< tt) in
    let f = at 5 (lit< tt) in
    let g = at 6 (lit< tt) in
    let h = at 7 (lit< tt) in
    omega arith

rows_same : (size count : ℕ) (xs : List ℕ) → list_all (λ row. ltb (number8 row 0) (2 ^ size)) (first_chunks 8 count xs) ≡ rows_good count size xs
unfolding rows_good
rows_same size zero xs = refl
rows_same size (suc count) xs =
    ap (λ n. ltb n (2 ^ size) && list_all (λ row. ltb (number8 row 0) (2 ^ size)) (first_chunks 8 count (drop 8 xs))) (first_row xs)
    ∙ ap (λ b. ltb (number8 xs 0) (2 ^ size) && b) (rows_same size count (drop 8 xs))

pub rows_all : (size count : ℕ) (xs : List ℕ) → length xs ≡ 8 * count
    → list_all (λ row. ltb (number8 row 0) (2 ^ size)) (first_chunks 8 (length xs / 8) xs) ≡ rows_good count size xs
rows_all size count xs e =
    let many : length xs / 8 ≡ count = omega arith in
    ap (λ n. list_all (λ row. ltb (number8 row 0) (2 ^ size)) (first_chunks 8 n xs)) many ∙ rows_same size count xs

-- a shift that leaves nothing
pub fits_shift : (row size : ℕ) → eqb (row / 2 ^ size) 0 ≡ ltb row (2 ^ size)
fits_shift row size = ⊎_elim below above (cases_lt row (2 ^ size))
  where
    below : row < 2 ^ size → eqb (row / 2 ^ size) 0 ≡ ltb row (2 ^ size)
    below h =
        let small : row / 2 ^ size < 1 = div_below row (2 ^ size) 1 (pow_pos size) (omega arith) in
        eq-eqb (row / 2 ^ size) 0 (omega arith) ∙ sym (lt-ltb row (2 ^ size) h)

    above : 2 ^ size ≤ row → eqb (row / 2 ^ size) 0 ≡ ltb row (2 ^ size)
    above h =
        let large : 1 ≤ row / 2 ^ size = le-div 1 row (2 ^ size) (pow_pos size) (omega arith) in
        ne_eqb (row / 2 ^ size) 0 (λ z. omega arith) ∙ sym (le-ltb row (2 ^ size) h)

pub fits_wide : (row size : ℕ) → row < 2 ^ 64 → 64 ≤ size → ltb row (2 ^ size) ≡ true
fits_wide row size h l = lt-ltb row (2 ^ size) (le_trans h (pow_mono l))

-- one row more of those that stand in some bytes
more_rows : (k : ℕ) (xs : List ℕ) → rows_in (suc k) xs ≡ rows_in k xs ++ (number8 xs (8 * k) ∷ [])
unfolding rows_in
more_rows zero xs = refl
more_rows (suc k) xs =
    ap (λ ys. number8 xs 0 ∷ ys)
    (more_rows k (drop 8 xs) ∙ ap (λ n. rows_in k (drop 8 xs) ++ (n ∷ [])) (number8-drop xs 8 (8 * k) ∙ ap (number8 xs) (omega arith)))

pub rows_more : (k : ℕ) (xs : List ℕ) → rows_in (k + 1) xs ≡ rows_in k xs ++ (number8 xs (8 * k) ∷ [])
rows_more k xs = ap (λ n. rows_in n xs) (omega arith) ∙ more_rows k xs

pub no_rows : (xs : List ℕ) → rows_in 0 xs ≡ []
unfolding rows_in
no_rows xs = refl
