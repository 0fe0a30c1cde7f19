-- Numbers in a sheet: low byte first.
use Rattle.std.specs.Prelude.{ℕ, ◌+◌, ◌*◌, ◌/◌, ◌%◌, List, [], ◌∷◌, ◌++◌, slice_index}

-- a number as two, four or eight bytes
abbrev pub two : ℕ → List ℕ
two n = n % 256 ∷ (n / 256 % 256 ∷ [])

abbrev pub four : ℕ → List ℕ
four n = two (n % 65536) ++ two (n / 65536)

abbrev pub eight : ℕ → List ℕ
eight n = four (n % 4294967296) ++ four (n / 4294967296)

-- the number that stands in two, four or eight bytes, from the byte k on
abbrev pub number2 : List ℕ → ℕ → ℕ
number2 xs k = slice_index xs k + slice_index xs (k + 1) * 256

abbrev pub number4 : List ℕ → ℕ → ℕ
number4 xs k = number2 xs k + number2 xs (k + 2) * 65536

abbrev pub number8 : List ℕ → ℕ → ℕ
number8 xs k = number4 xs k + number4 xs (k + 4) * 4294967296
