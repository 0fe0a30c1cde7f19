-- The sheet that the bytes of the chain hold, and what its combined catalog means.
use Rattle.std.proofs.Common.{◌≡◌, ℕ, zero, suc, ◌<◌, cond, [], ◌∷◌, get_or, pos, negsuc, is_ok, Ok, refl, ap, ◌∙◌, arith}
use Rattle.catalog.specs.Joined.{joined}
use Rattle.catalog.specs.Meaning.{Meaning}
use Rattle.catalog.specs.Renumbered.{renumbered}
use Rattle.catalog.specs.House.{house}
use Rattle.catalog.specs.Table.{all_below}
use Rattle.sheet_format.specs.Value.{Sheet, sum, add, retract, size_at, house_at}
use Rattle.sheet_format.specs.Decoding.{decode, split}
use Rattle.sheet_format.specs.Verdict.{verdict, walked}
use Rattle.sheet_catalog.specs.Meant.{meaning_of, empty_sheet, sheet_in}
use Rattle.sheet_catalog.specs.Placed.{numbers_of, size_of_house, SizesOf}
use Rattle.samples.specs.Chain.{chain_bytes, chain}
use Rattle.samples.specs.Sets.{LargestUnder}
use Rattle.samples.proofs.Settled.{largest_under}

-- the sheet in words
abbrev sheet : Sheet
sheet = record {
  variables = record { size = 3; house = 0 } ∷ record { size = 3; house = 1 } ∷ record { size = 3; house = 2 } ∷ [];
  constraints = sum 0 1 (negsuc 0) (pos 1) (pos 1) (pos 63) ∷ sum 1 2 (negsuc 0) (pos 1) (pos 1) (pos 63) ∷ [];
  moves = add 0 ∷ add 1 ∷ add 1 ∷ retract 0 ∷ retract 9 ∷ [];
}

pub accepted : verdict chain_bytes ≡ Ok (record { variables = 3; constraints = 2; moves = 5; constraints_at = 32; moves_at = 68 })
unfolding walked
accepted = refl

decoded : decode chain_bytes ≡ sheet
unfolding split
decoded = refl

held : sheet_in chain_bytes ≡ sheet
held = ap (λ v. cond (is_ok v) (decode chain_bytes) empty_sheet) accepted ∙ decoded

sizes_in_words : SizesOf sheet (3 ∷ 3 ∷ 3 ∷ [])
sizes_in_words = record { many = refl; each = each; back = back }
  where
    each : (h : ℕ) → h < 3 → get_or (3 ∷ 3 ∷ 3 ∷ []) h 0 ≡ size_of_house sheet.variables h
    each zero l = refl
    each (suc zero) l = refl
    each (suc (suc zero)) l = refl
    each (suc (suc (suc h))) l = absurd (omega arith)

    back : (e : ℕ) → e < 3 → get_or (3 ∷ 3 ∷ 3 ∷ []) (house_at sheet.variables e) 0 ≡ size_at sheet.variables e
    back zero l = refl
    back (suc zero) l = refl
    back (suc (suc zero)) l = refl
    back (suc (suc (suc h))) l = absurd (omega arith)

pub sizes : SizesOf (sheet_in chain_bytes) (3 ∷ 3 ∷ 3 ∷ [])
sizes = rw held sizes_in_words

-- the combined catalog on the sheet in words
abbrev combined : Meaning
combined = joined (renumbered (numbers_of sheet) (meaning_of sheet)) house

first_in_words : LargestUnder combined (3 ∷ 3 ∷ 3 ∷ []) (0 ∷ []) ((0 ∷ 1 ∷ []) ∷ (1 ∷ 2 ∷ []) ∷ (0 ∷ 1 ∷ 2 ∷ []) ∷ [])
unfolding all_below numbers_of
first_in_words = largest_under combined (3 ∷ 3 ∷ 3 ∷ []) (0 ∷ []) ((0 ∷ 1 ∷ []) ∷ (1 ∷ 2 ∷ []) ∷ (0 ∷ 1 ∷ 2 ∷ []) ∷ []) ((0, 2, 0) ∷ (1, 0, 0) ∷ []) refl

both_in_words : LargestUnder combined (3 ∷ 3 ∷ 3 ∷ []) (0 ∷ 1 ∷ []) ((0 ∷ []) ∷ (1 ∷ []) ∷ (2 ∷ []) ∷ [])
unfolding all_below numbers_of
both_in_words =
    largest_under combined (3 ∷ 3 ∷ 3 ∷ []) (0 ∷ 1 ∷ []) ((0 ∷ []) ∷ (1 ∷ []) ∷ (2 ∷ []) ∷ [])
    ((0, 1, 0) ∷ (2, 1, 1) ∷ (1, 2, 1) ∷ (2, 0, 1) ∷ (0, 2, 0) ∷ (1, 0, 0) ∷ []) refl

second_in_words : LargestUnder combined (3 ∷ 3 ∷ 3 ∷ []) (1 ∷ []) ((0 ∷ 1 ∷ 2 ∷ []) ∷ (0 ∷ 1 ∷ []) ∷ (1 ∷ 2 ∷ []) ∷ [])
unfolding all_below numbers_of
second_in_words = largest_under combined (3 ∷ 3 ∷ 3 ∷ []) (1 ∷ []) ((0 ∷ 1 ∷ 2 ∷ []) ∷ (0 ∷ 1 ∷ []) ∷ (1 ∷ 2 ∷ []) ∷ []) ((1, 2, 1) ∷ (2, 0, 1) ∷ []) refl

pub first : LargestUnder chain (3 ∷ 3 ∷ 3 ∷ []) (0 ∷ []) ((0 ∷ 1 ∷ []) ∷ (1 ∷ 2 ∷ []) ∷ (0 ∷ 1 ∷ 2 ∷ []) ∷ [])
first = rw held first_in_words

pub both : LargestUnder chain (3 ∷ 3 ∷ 3 ∷ []) (0 ∷ 1 ∷ []) ((0 ∷ []) ∷ (1 ∷ []) ∷ (2 ∷ []) ∷ [])
both = rw held both_in_words

pub second : LargestUnder chain (3 ∷ 3 ∷ 3 ∷ []) (1 ∷ []) ((0 ∷ 1 ∷ 2 ∷ []) ∷ (0 ∷ 1 ∷ []) ∷ (1 ∷ 2 ∷ []) ∷ [])
second = rw held second_in_words
