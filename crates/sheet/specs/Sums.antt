-- The formula that a sum constraint's body holds.
use Rattle.std.specs.Prelude.{ℕ, List}
use Rattle.std.proofs.Common.{to_z}
use Rattle.std.specs.Int.{w16, w32}
use Rattle.sheet_format.specs.Numbers.{number2, number4}
use Rattle.sheet.specs.declared.formula.Formula.{Formula}

-- its factors and its limits, which stand after both ends
abbrev pub formula_in : List ℕ → Formula
formula_in body = record { m = to_z w16 (number2 body 2); k = to_z w16 (number2 body 4); lo = to_z w32 (number4 body 6); hi = to_z w32 (number4 body 10) }
