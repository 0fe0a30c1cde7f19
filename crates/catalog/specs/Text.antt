-- What is printed of a refusal.
use Rattle.std.specs.Prelude.{ℕ, List, ◌++◌, codes, decimal}
use Rattle.catalog.specs.declared.refusal.Refusal.{Refusal}
use Rattle.catalog.specs.Number.{number_of}

-- `no` and the number
abbrev pub refusal_text : Refusal → List ℕ
refusal_text e = codes "no " ++ decimal (number_of e)
