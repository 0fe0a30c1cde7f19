-- Sets of small numbers, held as the bits of a number: x is in the set d when bit x of d is 1.
use Rattle.std.specs.Prelude.{ℕ, ◌/◌, ◌%◌, ◌^◌, Bool, List, ◌==◌, slice_index}

-- bit x of d, counted from the lowest: 0 or 1
unfoldable pub bit_at : ℕ → ℕ → ℕ
bit_at d x = d / 2 ^ x % 2

-- is x in the set d
abbrev pub has_bit : ℕ → ℕ → Bool
has_bit d x = bit_at d x == 1

-- a list of sets as a family of domains: is the value x in entry i; past the list every set is empty
abbrev pub domains_of : List ℕ → ℕ → ℕ → Bool
domains_of ds i x = has_bit (slice_index ds i) x
