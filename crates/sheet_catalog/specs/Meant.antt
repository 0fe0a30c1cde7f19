-- What the constraints of a sheet mean.
use Rattle.std.specs.Prelude.{ℕ, Bool, cond, ◌&&◌, List, [], length, ℤ, pos, ◌+ℤ◌, ◌*ℤ◌, is_ok, nat_lt, slice_index, slice_index_or}
use Rattle.bits.specs.Bits.{has_bit}
use Rattle.catalog.specs.Meaning.{Meaning}
use Rattle.sheet_format.specs.Value.{Constraint, sum, table, Sheet}
use Rattle.sheet_format.specs.Decoding.{decode}
use Rattle.sheet_format.specs.Verdict.{between_z, verdict}

-- the two ends
abbrev pub left_end : Constraint → ℕ
left_end (sum a b m k lo hi) = a
left_end (table a b rows) = a

abbrev pub right_end : Constraint → ℕ
right_end (sum a b m k lo hi) = b
right_end (table a b rows) = b

-- lo ≤ m·x + k·y ≤ hi, over the integers
abbrev pub sum_allows : ℤ → ℤ → ℤ → ℤ → ℕ → ℕ → Bool
sum_allows m k lo hi x y = between_z lo hi (m *ℤ pos x +ℤ k *ℤ pos y)

-- bit y of row x; no past the rows
abbrev pub table_allows : List ℕ → ℕ → ℕ → Bool
table_allows rows x y = nat_lt x (length rows) && has_bit (slice_index rows x) y

-- does the constraint allow x, of its left end, beside y, of its right end
abbrev pub pair_allowed : Constraint → ℕ → ℕ → Bool
pair_allowed (sum a b m k lo hi) x y = sum_allows m k lo hi x y
pair_allowed (table a b rows) x y = table_allows rows x y

-- stands where a list of constraints has no more
abbrev pub no_constraint : Constraint
no_constraint = table 0 0 []

abbrev pub constraint_at : Sheet → ℕ → Constraint
constraint_at s p = slice_index_or s.constraints p no_constraint

-- the constraints of a sheet, in its order
abbrev pub meaning_of : Sheet → Meaning
meaning_of s = record {
  count = length s.constraints;
  left = λ p. left_end (constraint_at s p);
  right = λ p. right_end (constraint_at s p);
  allows = λ p x y. pair_allowed (constraint_at s p) x y;
}

abbrev pub empty_sheet : Sheet
empty_sheet = record { variables = []; constraints = []; moves = [] }

-- the sheet that bytes hold: the one that accepted bytes encode; refused bytes hold nothing
abbrev pub sheet_in : List ℕ → Sheet
sheet_in bytes = cond (is_ok (verdict bytes)) (decode bytes) empty_sheet
