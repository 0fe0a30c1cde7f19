use Rattle.std.proofs.Common.{◌≡◌, drop}
use Rattle.sheet_format.specs.Decoding.{decode}
use Rattle.sheet_catalog.specs.Placed.{size_of_house}
use Rattle.sheet_catalog.proofs.sizes.reading.size_of_house.Given as goal

-- what is left of the variables gives the size
abbrev pub invariant-loop-e : goal.invariant-loop-e
invariant-loop-e l = size_of_house (drop l.e (decode l.sheet.bytes.now).variables) l.h ≡ size_of_house (decode l.sheet.bytes.now).variables l.h
