-- What is counted of a constraint, and which constraints lie between the first variables.
use Rattle.std.specs.Prelude.{ℕ, zero, suc, ◌+◌, Bool, ◌&&◌, count_by, nat_lt}
use Rattle.std.specs.List.{range_with_len}
use Rattle.catalog.specs.Meaning.{Meaning, allowed}

-- how many values below a size p allows beside x
abbrev pub beside_count : Meaning → ℕ → ℕ → ℕ → ℕ
beside_count m p x size = count_by (λ y. allowed m p x y) (range_with_len 0 size)

-- how many pairs p allows, of left values below the last number and right values below the one before it
unfoldable pub pair_count : Meaning → ℕ → ℕ → ℕ → ℕ
pair_count m p size zero = 0
pair_count m p size (suc x) = pair_count m p size x + beside_count m p x size

-- q is a constraint of m with both ends below n
abbrev pub is_inside : Meaning → ℕ → ℕ → Bool
is_inside m n q = nat_lt q m.count && (nat_lt (m.left q) n && nat_lt (m.right q) n)
