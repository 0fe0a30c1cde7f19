-- The bytes of a sheet.
use Rattle.std.specs.Prelude.{ℕ, ◌+◌, ◌≤◌, List, [], ◌∷◌, ◌++◌, map, length}
use Rattle.std.proofs.Common.{of_z}
use Rattle.std.specs.Int.{w16, w32}
use Rattle.std.specs.List.{flat_map, AllByRecursion}
use Rattle.sheet_format.specs.declared.found.Variable.{Variable}
use Rattle.sheet_format.specs.Numbers.{two, four, eight}
use Rattle.sheet_format.specs.Value.{Constraint, sum, table, Move, add, retract, Sheet, ValidVariable, HousesDiffer, ValidConstraint, ValidMove}

-- a record: its kind and its body
pub record Raw : Type 0 where
  pub kind : ℕ
  pub body : List ℕ

-- the length of the whole record, the kind, the body
abbrev pub framed : Raw → List ℕ
framed r = two (4 + length r.body) ++ (two r.kind ++ r.body)

abbrev pub heading_record : ℕ → Raw
heading_record n = record { kind = 1; body = two 1 ++ two n }

abbrev pub variable_record : Variable → Raw
variable_record v = record { kind = 2; body = two v.size ++ two v.house }

abbrev pub constraint_record : Constraint → Raw
constraint_record (sum a b m k lo hi) =
    record { kind = 3; body = a ∷ (b ∷ (two (of_z w16 m) ++ (two (of_z w16 k) ++ (four (of_z w32 lo) ++ four (of_z w32 hi))))) }
constraint_record (table a b rows) = record { kind = 4; body = a ∷ (b ∷ flat_map eight rows) }

abbrev pub move_record : Move → Raw
move_record (add p) = record { kind = 5; body = two p }
move_record (retract p) = record { kind = 6; body = two p }

abbrev pub end_record : Raw
end_record = record { kind = 7; body = [] }

-- one heading, the variables, the constraints, the moves, the end
abbrev pub records_of : Sheet → List Raw
records_of s =
    heading_record (length s.variables)
    ∷ (map variable_record s.variables
    ++ (map constraint_record s.constraints
    ++ (map move_record s.moves
    ++ (end_record ∷ []))))

abbrev pub encode : Sheet → List ℕ
encode s = flat_map framed (records_of s)

pub record Valid (s : Sheet) : Type 0 where
  pub some_variables : 1 ≤ length s.variables
  pub few_variables : length s.variables ≤ 32
  pub variables_valid : AllByRecursion (ValidVariable (length s.variables)) s.variables
  pub houses_differ : HousesDiffer s.variables
  pub few_constraints : length s.constraints ≤ 96
  pub constraints_valid : AllByRecursion (ValidConstraint s.variables) s.constraints
  pub moves_valid : AllByRecursion ValidMove s.moves
  pub short : length (encode s) ≤ 65535
