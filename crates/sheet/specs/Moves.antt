-- Moves in the code, as the sheet's value has them.
use Rattle.std.specs.Prelude.{ℕ, cond, List, ◌==◌}
use Rattle.sheet_format.specs.Numbers.{number2}
use Rattle.sheet_format.specs.Value as value
use Rattle.sheet.specs.declared.sheet_move.Move.{Move}
use Rattle.sheet.specs.declared.sheet_move.Move.TheVariants.{Add, Retract}

-- the move of the sheet's value that a move says
abbrev pub move_of : Move → value.Move
move_of (Add p) = value.add p
move_of (Retract p) = value.retract p

-- the move that a record's bytes are, told by its kind
abbrev pub move_by_kind : List ℕ → Move
move_by_kind xs = cond (number2 xs 2 == 5) (Add (number2 xs 4)) (Retract (number2 xs 4))
