-- Which variable of a network each variable of a sheet is, and the sizes that the network's variables get.
use Rattle.std.specs.Prelude.{◌≡◌, ℕ, ◌<◌, cond, List, [], ◌∷◌, map, length, ◌==◌, nat_lt, slice_index}
use Rattle.std.specs.List.{range_with_len}
use Rattle.sheet_format.specs.declared.found.Variable.{Variable}
use Rattle.sheet_format.specs.Value.{Sheet, size_at, house_at}

-- the number that e gets: the house number of the sheet's variable e, and e itself where the sheet has no such variable
abbrev pub number_of : Sheet → ℕ → ℕ
number_of s e = cond (nat_lt e (length s.variables)) (house_at s.variables e) e

-- the numbers of 0 to 31
unfoldable pub numbers_of : Sheet → List ℕ
numbers_of s = map (number_of s) (range_with_len 0 32)

-- the size of the first variable whose house number is h, or 0 where there is none
abbrev pub size_of_house : List Variable → ℕ → ℕ
size_of_house [] h = 0
size_of_house (v ∷ vs) h = cond (v.house == h) v.size (size_of_house vs h)

-- A list of the sizes of a network's variables, as many as the sheet has: variable h has the size of the sheet's variable whose house
-- number is h.
pub record SizesOf (s : Sheet) (sizes : List ℕ) : Type 0 where
  pub many : length sizes ≡ length s.variables
  pub each : (h : ℕ) → h < length s.variables → slice_index sizes h ≡ size_of_house s.variables h
  -- seen from the sheet's variables
  pub back : (e : ℕ) → e < length s.variables → slice_index sizes (house_at s.variables e) ≡ size_at s.variables e
