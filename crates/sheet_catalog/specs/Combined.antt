-- What the combined catalog on a sheet means.
use Rattle.std.specs.Prelude.{ℕ, List}
use Rattle.catalog.specs.Meaning.{Meaning}
use Rattle.catalog.specs.Joined.{joined}
use Rattle.catalog.specs.Renumbered.{renumbered}
use Rattle.catalog.specs.House.{house}
use Rattle.sheet_catalog.specs.Meant.{meaning_of, sheet_in}
use Rattle.sheet_catalog.specs.Placed.{numbers_of}

-- the constraints of the sheet that the bytes hold, on the variables that the sheet's house numbers name, then those of the house
abbrev pub combined_of : List ℕ → Meaning
combined_of bytes = joined (renumbered (numbers_of (sheet_in bytes)) (meaning_of (sheet_in bytes))) house
