-- The list that sizes are.
use Rattle.std.specs.Prelude.{ℕ, List, take}
use Rattle.sheet_catalog.specs.declared.sizes.Sizes.{Sizes}

abbrev pub listed : Sizes → List ℕ
listed s = take s.count s.sizes
