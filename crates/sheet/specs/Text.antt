-- What is printed of a move.
use Rattle.std.specs.Prelude.{ℕ, List, ◌++◌, codes, decimal}
use Rattle.sheet.specs.declared.sheet_move.Move.{Move}
use Rattle.sheet.specs.declared.sheet_move.Move.TheVariants.{Add, Retract}

-- `in` where it adds a constraint, `out` where it retracts one
abbrev pub word_of : Move → List ℕ
word_of (Add p) = codes "in"
word_of (Retract p) = codes "out"

abbrev pub index_of : Move → ℕ
index_of (Add p) = p
index_of (Retract p) = p

-- its word and its index
abbrev pub move_text : Move → List ℕ
move_text m = word_of m ++ (codes " " ++ decimal (index_of m))
