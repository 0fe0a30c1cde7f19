-- Row by row through the bytes of a table.
use Rattle.std.proofs.Common.{◌≡◌, ℕ, zero, suc, ◌*◌, ◌/◌, ◌<◌, ◌≤◌, false, ◌&&◌, ltb, List, length, get_or, drop, sym, refl, ap, ◌∙◌, arith}
use Rattle.std.proofs.lemmas.Bool.{lt-ltb, le-ltb}
use Rattle.bits.specs.Bits.{has_bit}
use Rattle.sheet_format.specs.Decoding.{rows_in}
use Rattle.sheet_format.specs.Numbers.{number8}
use Rattle.sheet_law.proofs.NumberLaws.{number8-drop}
use Rattle.sheet_catalog.specs.Meant.{table_allows}

rows_long : (count : ℕ) (xs : List ℕ) → length (rows_in count xs) ≡ count
unfolding rows_in
rows_long zero xs = refl
rows_long (suc count) xs = ap suc (rows_long count (drop 8 xs))

-- row x stands in the eight bytes from 8 * x on
row_at : (count x : ℕ) (xs : List ℕ) → x < count → get_or (rows_in count xs) x 0 ≡ number8 xs (8 * x)
unfolding rows_in
row_at zero x xs h = absurd (omega arith)
row_at (suc count) zero xs h = refl
row_at (suc count) (suc x) xs h = row_at count x (drop 8 xs) (omega arith) ∙ number8-drop xs 8 (8 * x) ∙ ap (number8 xs) (omega arith)

-- a row that is there, and one that is not
pub row_allows : (xs : List ℕ) (x y : ℕ) → x < length xs / 8 → has_bit (number8 xs (8 * x)) y ≡ table_allows (rows_in (length xs / 8) xs) x y
row_allows xs x y h =
    ap (λ r. has_bit r y) (sym (row_at (length xs / 8) x xs h))
    ∙ sym (ap (λ b. b && has_bit (get_or (rows_in (length xs / 8) xs) x 0) y) (ap (ltb x) (rows_long (length xs / 8) xs) ∙ lt-ltb x (length xs / 8) h))

pub row_refuses : (xs : List ℕ) (x y : ℕ) → length xs / 8 ≤ x → false ≡ table_allows (rows_in (length xs / 8) xs) x y
row_refuses xs x y h =
    sym (ap (λ b. b && has_bit (get_or (rows_in (length xs / 8) xs) x 0) y) (ap (ltb x) (rows_long (length xs / 8) xs) ∙ le-ltb x (length xs / 8) h))
