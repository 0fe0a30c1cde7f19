-- A numbering: 32 numbers of variables below 32, of which no two are equal.
use Rattle.std.specs.Prelude.{◌≡◌, ℕ, ◌<◌, List, length, ◌≢◌, slice_index}

-- entry e is the number that the variable e gets
abbrev pub entry : List ℕ → ℕ → ℕ
entry to e = slice_index to e

pub record IsNumbering (to : List ℕ) : Type 0 where
  pub full : length to ≡ 32
  pub low : (e : ℕ) → e < 32 → entry to e < 32
  pub apart : (e e' : ℕ) → e < e' → e' < 32 → entry to e ≢ entry to e'

-- entry e does its part: it is below 32, and no earlier one is equal to it
abbrev pub EntryStands : List ℕ → ℕ → Type 0
EntryStands to e = (entry to e < 32) × ((k : ℕ) → k < e → entry to k ≢ entry to e)
