-- Worked samples: what a sheet's own bytes hold, the largest domains, and rows of the house catalog.
use Rattle.std.specs.Prelude.{◌≡◌, ℕ, ◌^◌, ◌<◌, ◌&&◌, [], ◌∷◌, Some, Ok, nat_le}
use Rattle.arcs.specs.WipedOut.{WipedOut}
use Rattle.bits.specs.Bits.{has_bit}
use Rattle.catalog.specs.Meaning.{Meaning, allowed}
use Rattle.catalog.specs.House.{house}
use Rattle.samples.specs.Small.{ordered, crossed}
use Rattle.sheet_format.specs.Verdict.{verdict}
use Rattle.sheet_catalog.specs.Meant.{sheet_in}
use Rattle.sheet_catalog.specs.Placed.{SizesOf}
use Rattle.samples.specs.Chain.{chain_bytes, chain}
use Rattle.samples.specs.Sets.{LargestUnder, sets_of}

-- `row` as a u64: bit y is set just when p allows y beside x
pub record IsRow (m : Meaning) (p x row : ℕ) : Type 0 where
  pub fits : row < 2 ^ 64
  pub bits : (y : ℕ) → has_bit row y ≡ allowed m p x y

pub record Samples : Type 0 where
  -- the chain's 102 bytes are accepted: 3 variables, 2 constraints, 5 moves, the constraints from byte 32 and the moves from byte 68
  pub chain_accepted : verdict chain_bytes ≡ Ok (record { variables = 3; constraints = 2; moves = 5; constraints_at = 32; moves_at = 68 })
  pub chain_sizes : SizesOf (sheet_in chain_bytes) (3 ∷ 3 ∷ 3 ∷ [])
  -- on the catalog of a run: under constraint 0 alone, under both, under 1 alone
  pub chain_first : LargestUnder chain (3 ∷ 3 ∷ 3 ∷ []) (0 ∷ []) ((0 ∷ 1 ∷ []) ∷ (1 ∷ 2 ∷ []) ∷ (0 ∷ 1 ∷ 2 ∷ []) ∷ [])
  pub chain_both : LargestUnder chain (3 ∷ 3 ∷ 3 ∷ []) (0 ∷ 1 ∷ []) ((0 ∷ []) ∷ (1 ∷ []) ∷ (2 ∷ []) ∷ [])
  pub chain_second : LargestUnder chain (3 ∷ 3 ∷ 3 ∷ []) (1 ∷ []) ((0 ∷ 1 ∷ 2 ∷ []) ∷ (0 ∷ 1 ∷ []) ∷ (1 ∷ 2 ∷ []) ∷ [])
  -- two variables of 3 values under x ≤ y and x ≠ y: nothing goes out
  pub nothing_out : LargestUnder ordered (3 ∷ 3 ∷ []) (0 ∷ 1 ∷ []) ((0 ∷ 1 ∷ 2 ∷ []) ∷ (0 ∷ 1 ∷ 2 ∷ []) ∷ [])
  -- two variables of 2 values under x < y and x > y: both are empty, and 0 is the wiped-out one
  pub both_empty : LargestUnder crossed (2 ∷ 2 ∷ []) (0 ∷ 1 ∷ []) ([] ∷ [] ∷ [])
  pub names_zero : WipedOut (sets_of ([] ∷ [] ∷ [])) 2 (Some 0)
  -- a third one of 3 values, untied, keeps them
  pub third_kept : LargestUnder crossed (2 ∷ 2 ∷ 3 ∷ []) (0 ∷ 1 ∷ []) ([] ∷ [] ∷ (0 ∷ 1 ∷ 2 ∷ []) ∷ [])
  pub still_zero : WipedOut (sets_of ([] ∷ [] ∷ (0 ∷ 1 ∷ 2 ∷ []) ∷ [])) 3 (Some 0)
  -- rows of the house catalog: row 5 of constraint 0 is 0x3F; row 63 of 1 allows exactly 60 to 63; row 0 of 3 exactly 0 to 20; row 63 exactly 32 to 51
  pub house_zero : IsRow house 0 5 0x3F
  pub house_one : (y : ℕ) → allowed house 1 63 y ≡ (nat_le 60 y && nat_le y 63)
  pub house_three : (y : ℕ) → allowed house 3 0 y ≡ nat_le y 20
  pub house_three_last : (y : ℕ) → allowed house 3 63 y ≡ (nat_le 32 y && nat_le y 51)
