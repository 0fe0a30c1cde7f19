use Rattle.std.proofs.Common.{◌≡◌, ℕ, ◌<◌, length, drop}
use Rattle.sheet_format.specs.Decoding.{decode}
use Rattle.sheet_catalog.specs.StartsAt.{StartsAt}
use Rattle.sheet_catalog.proofs.Read.{from_constraint}
use Rattle.sheet_catalog.proofs.starts.starts_of.Given as goal

-- the constraints so far begin where the list says, and from the place reached on the next one and all after it follow
abbrev pub invariant-loop-start : goal.invariant-loop-start
invariant-loop-start l =
    (length l.start-items ≡ l.sheet.found.constraints)
    × (drop l.place l.sheet.bytes.now ≡ from_constraint (decode l.sheet.bytes.now) l.start-index)
    × ((k : ℕ) → k < l.start-index → StartsAt l.sheet.bytes.now (decode l.sheet.bytes.now) l.start-items k)
