-- The rows of a table, written and read back.
use Rattle.std.proofs.Common.{◌≡◌, ℕ, zero, suc, ◌*◌, ◌^◌, ◌<◌, ◌≤◌, true, ltb, List, [], ◌∷◌, ◌++◌, length, drop, sym, refl, ap, ◌∙◌, subst, le_trans, arith, pow_mono}
use Rattle.std.specs.List.{flat_map, AllByRecursion}
use Rattle.std.proofs.lemmas.List.{nil_from_length, length-drop}
use Rattle.std.proofs.ByRecursion.{All-drop}
use Rattle.std.proofs.lemmas.Bool.{ltb-true, lt-ltb, and_parts, and_from}
use Rattle.sheet_format.specs.Numbers.{eight, number8}
use Rattle.sheet_format.specs.Verdict.{rows_good}
use Rattle.sheet_format.specs.Decoding.{rows_in}
use Rattle.sheet_law.proofs.NumberLaws.{eight_back, Bytes, row_first}

-- the test of rows says that each has its bits below the size
pub rows_fit : (count size : ℕ) (xs : List ℕ) → rows_good count size xs ≡ true → AllByRecursion (λ row. row < 2 ^ size) (rows_in count xs)
unfolding rows_good rows_in
rows_fit zero size xs g = tt
rows_fit (suc count) size xs g =
    let p = and_parts (ltb (number8 xs 0) (2 ^ size)) (rows_good count size (drop 8 xs)) g in
    (ltb-true _ _ p.0, rows_fit count size (drop 8 xs) p.1)

pub fit_rows : (count size : ℕ) (xs : List ℕ) → AllByRecursion (λ row. row < 2 ^ size) (rows_in count xs) → rows_good count size xs ≡ true
unfolding rows_good rows_in
fit_rows zero size xs low = refl
fit_rows (suc count) size xs low = and_from _ _ (lt-ltb _ _ low.0) (fit_rows count size (drop 8 xs) low.1)

-- rows that are good are those read back, and each has its bits below the size
pub record RowsBack (count size : ℕ) (xs : List ℕ) : Type 0 where
  pub many : length (rows_in count xs) ≡ count
  pub same : xs ≡ flat_map eight (rows_in count xs)
  pub low : AllByRecursion (λ row. row < 2 ^ size) (rows_in count xs)

pub rows_back : (count size : ℕ) (xs : List ℕ) → Bytes xs → length xs ≡ 8 * count → rows_good count size xs ≡ true → RowsBack count size xs
unfolding rows_good rows_in
rows_back zero size xs b l g = record { many = refl; same = nil_from_length xs l; low = tt }
rows_back (suc count) size xs b l g =
    let p = and_parts (ltb (number8 xs 0) (2 ^ size)) (rows_good count size (drop 8 xs)) g in
    let cut = length-drop 8 xs in
    let r : RowsBack count size (drop 8 xs) = rows_back count size (drop 8 xs) (All-drop (λ x. x < 256) 8 xs b) (omega arith) p.1 in
    record {
      many = ap suc r.many;
      same = row_first xs b (omega arith) ∙ ap (λ ys. eight (number8 xs 0) ++ ys) r.same;
      low = (ltb-true _ _ p.0, r.low);
    }

-- what is written of rows is good, and reads back as the rows
pub rows_there : (size : ℕ) (rows rest : List ℕ) → size ≤ 64 → AllByRecursion (λ row. row < 2 ^ size) rows
    → (rows_good (length rows) size (flat_map eight rows ++ rest) ≡ true)
    × (rows_in (length rows) (flat_map eight rows ++ rest) ≡ rows)
    × (length (flat_map eight rows) ≡ 8 * length rows)
unfolding rows_good rows_in
rows_there size [] rest s low = (refl, refl, refl)
rows_there size (row ∷ rows) rest s low =
    let r = rows_there size rows rest s low.1 in
    let fits : row < 2 ^ 64 = le_trans low.0 (pow_mono s) in
    let back : number8 ((eight row ++ flat_map eight rows) ++ rest) 0 ≡ row = eight_back row (flat_map eight rows ++ rest) fits in (
      and_from _ _ (lt-ltb _ _ (subst (λ n. n < 2 ^ size) (sym back) low.0)) r.0,
      ap (λ n. n ∷ rows_in (length rows) (flat_map eight rows ++ rest)) back ∙ ap (λ ys. row ∷ ys) r.1,
      (let k = r.2 in omega arith),
    )
