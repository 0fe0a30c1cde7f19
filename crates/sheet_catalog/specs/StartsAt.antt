-- Where in bytes a record begins.
use Rattle.std.specs.Prelude.{◌≡◌, ℕ, List, length, take, drop, slice_index}
use Rattle.sheet_format.specs.Encoding.{Raw, framed, constraint_record}
use Rattle.sheet_format.specs.Value.{Sheet}
use Rattle.sheet_catalog.specs.Meant.{constraint_at}

-- from the byte `start` on, the bytes begin with the record r
abbrev pub BeginsAt : List ℕ → ℕ → Raw → Type 0
BeginsAt bytes start r = take (length (framed r)) (drop start bytes) ≡ framed r

-- entry p of the list is where the constraint p of the sheet begins
abbrev pub StartsAt : List ℕ → Sheet → List ℕ → ℕ → Type 0
StartsAt bytes s starts p = BeginsAt bytes (slice_index starts p) (constraint_record (constraint_at s p))
