-- How large a variable of a sheet may be.
use Rattle.std.specs.Prelude.{ℕ, ◌≤◌, List}
use Rattle.sheet_format.specs.declared.found.Variable.{Variable}
use Rattle.sheet_format.specs.Value.{size_at}

-- no variable has more than 64 values
abbrev pub SizesLow : List Variable → Type 0
SizesLow vs = (i : ℕ) → size_at vs i ≤ 64
