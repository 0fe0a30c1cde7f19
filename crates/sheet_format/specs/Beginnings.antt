-- The beginnings of sheets: whole records that keep every rule of the format, as far as they go. How long a sheet may be is no part of it.
use Rattle.std.specs.Prelude.{◌≡◌, ℕ, zero, suc, ◌+◌, ◌≤◌, List, [], ◌∷◌, ◌++◌, map, length}
use Rattle.std.specs.List.{flat_map, AllByRecursion}
use Rattle.sheet_format.specs.declared.found.Variable.{Variable}
use Rattle.sheet_format.specs.Value.{Constraint, Move, Sheet, ValidVariable, HousesDiffer, ValidConstraint, ValidMove}
use Rattle.sheet_format.specs.Encoding.{Raw, framed, heading_record, variable_record, constraint_record, move_record}
use Rattle.sheet_format.specs.Verdict.{Tally}

-- What the first records of a sheet say: the heading's number of variables (0 where not even the heading is there), and the variables, constraints
-- and moves after it.
pub record Begun : Type 0 where
  pub n : ℕ
  pub variables : List Variable
  pub constraints : List Constraint
  pub moves : List Move

-- the heading, if it is there
abbrev pub heading_begun : ℕ → List Raw
heading_begun zero = []
heading_begun (suc m) = heading_record (suc m) ∷ []

-- these records in their order, and their bytes
abbrev pub records_begun : Begun → List Raw
records_begun b =
    heading_begun b.n ++ (map variable_record b.variables ++ (map constraint_record b.constraints ++ map move_record b.moves))

abbrev pub bytes_begun : Begun → List ℕ
bytes_begun b = flat_map framed (records_begun b)

-- the heading and all its variables are there
pub record AllThere (b : Begun) : Type 0 where
  pub headed : 1 ≤ b.n
  pub all : length b.variables ≡ b.n

-- every rule is kept: valid variables, no more than the heading says; only after them all, valid constraints and moves
pub record Keeps (b : Begun) : Type 0 where
  pub n_low : b.n ≤ 32
  pub few_variables : length b.variables ≤ b.n
  pub variables_valid : AllByRecursion (ValidVariable b.n) b.variables
  pub houses_differ : HousesDiffer b.variables
  pub in_turn : 1 ≤ length b.constraints + length b.moves → AllThere b
  pub few_constraints : length b.constraints ≤ 96
  pub constraints_valid : AllByRecursion (ValidConstraint b.variables) b.constraints
  pub moves_valid : AllByRecursion ValidMove b.moves

abbrev pub begun_of : ℕ → List Variable → List Constraint → Begun
begun_of n vs cs = record { n = n; variables = vs; constraints = cs; moves = [] }

abbrev pub nothing_begun : Begun
nothing_begun = begun_of 0 [] []

-- what was there before the moves
abbrev pub unmoved : Begun → Begun
unmoved b = begun_of b.n b.variables b.constraints

-- the tally with which the check goes on after a beginning
abbrev pub begun_tally : Begun → Tally
begun_tally b =
    record { n = b.n; variables = b.variables; constraints = length b.constraints; moves = length b.moves; reached = length (bytes_begun (unmoved b)) }

-- the sheet that a beginning says, if the end follows
abbrev pub begun_sheet : Begun → Sheet
begun_sheet b = record { variables = b.variables; constraints = b.constraints; moves = b.moves }
