-- What is printed of a set.
use Rattle.std.specs.Prelude.{ℕ, zero, suc, cond, List, [], ◌++◌, codes, decimal, ◌==◌}
use Rattle.bits.specs.Bits.{has_bit}

-- a value after a blank, where it is in the set
abbrev pub value_in : ℕ → ℕ → List ℕ
value_in d x = cond (has_bit d x) (codes " " ++ decimal x) []

-- the values of a set below a number, in order
unfoldable pub values_below : ℕ → ℕ → List ℕ
values_below d zero = []
values_below d (suc x) = values_below d x ++ value_in d x

-- each value after a blank, or ` none` for the empty set
abbrev pub values_text : ℕ → List ℕ
values_text d = cond (d == 0) (codes " none") (values_below d 64)
