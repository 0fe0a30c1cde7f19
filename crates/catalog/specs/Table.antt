-- The house catalog's table, and the test that it is the formulas'.
use Rattle.std.specs.Prelude.{ℕ, zero, suc, Bool, true, false, not, ◌&&◌, List, [], slice_index, slice_index_or}
use Rattle.bits.specs.Bits.{has_bit}
use Rattle.catalog.specs.House.{house}

-- the test f passes at each number below n
unfoldable pub all_below : (ℕ → Bool) → ℕ → Bool
all_below f zero = true
all_below f (suc n) = f n && all_below f n

abbrev pub same : Bool → Bool → Bool
same true b = b
same false b = not b

-- bit y of the row is set just where constraint p allows y beside x by its formula
unfoldable pub row_agrees : ℕ → ℕ → ℕ → Bool
row_agrees p x row = all_below (λ y. same (has_bit row y) (house.allows p x y)) 64

-- each row of the four constraints agrees with its formula
unfoldable pub agrees : List (List ℕ) → Bool
agrees rows = all_below (λ p. all_below (λ x. row_agrees p x (slice_index (slice_index_or rows p []) x)) 64) 4
