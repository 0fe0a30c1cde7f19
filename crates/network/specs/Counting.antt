-- How many values there are of a kind.
use Rattle.std.specs.Prelude.{ℕ, zero, suc, ◌+◌, Bool, cond, not, ◌&&◌}
use Rattle.arcs.specs.Family.{Family}

-- how many numbers below n pass the test
unfoldable pub passing : (ℕ → Bool) → ℕ → ℕ
passing f zero = 0
passing f (suc n) = passing f n + cond (f n) 1 0

-- of the variables below n, how many of their values below 64 are in the family
unfoldable pub values_in : Family → ℕ → ℕ
values_in f zero = 0
values_in f (suc n) = values_in f n + passing (f n) 64

-- the values of the first family that are not in the second
abbrev pub less : Family → Family → Family
less f g i x = f i x && not (g i x)

-- how many values of the 32 variables are in the first family and not in the second
abbrev pub count_less : Family → Family → ℕ
count_less f g = values_in (less f g) 32
