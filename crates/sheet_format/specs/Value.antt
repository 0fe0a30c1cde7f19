-- What a sheet says: its variables, its constraints and its moves.
use Rattle.std.specs.Prelude.{◌≡◌, ℕ, ◌^◌, ◌<◌, ◌≤◌, List, length, ℤ, pos, negsuc, ◌≤ℤ◌, FitsSigned, ◌≢◌, slice_index_or}
use Rattle.std.specs.Int.{w32}
use Rattle.std.specs.List.{AllByRecursion}
use Rattle.sheet_format.specs.declared.found.Variable.{Variable}

-- A constraint between the variables a and b.
pub data Constraint : Type 0 where
  -- allows (x, y) when lo ≤ m·x + k·y ≤ hi
  sum : (a b : ℕ) (m k lo hi : ℤ) → Constraint
  -- allows (x, y) when bit y of row x is set
  table : (a b : ℕ) (rows : List ℕ) → Constraint

-- A move adds or retracts the constraint at an index.
pub data Move : Type 0 where
  add : ℕ → Move
  retract : ℕ → Move

pub record Sheet : Type 0 where
  pub variables : List Variable
  pub constraints : List Constraint
  pub moves : List Move

-- stands where a list of variables has no more
abbrev pub no_variable : Variable
no_variable = record { size = 0; house = 0 }

abbrev pub size_at : List Variable → ℕ → ℕ
size_at vs i = (slice_index_or vs i no_variable).size

abbrev pub house_at : List Variable → ℕ → ℕ
house_at vs i = (slice_index_or vs i no_variable).house

-- one of n variables
pub record ValidVariable (n : ℕ) (v : Variable) : Type 0 where
  pub some_values : 1 ≤ v.size
  pub few_values : v.size ≤ 64
  pub house_low : v.house < n

-- no two variables have the same house number
abbrev pub HousesDiffer : List Variable → Type 0
HousesDiffer vs = (i j : ℕ) → i < length vs → j < length vs → house_at vs i ≡ house_at vs j → i ≡ j

-- two different variables out of n
pub record ValidEnds (n a b : ℕ) : Type 0 where
  pub a_low : a < n
  pub b_low : b < n
  pub apart : a ≢ b

pub record ValidSum (n a b : ℕ) (m k lo hi : ℤ) : Type 0 where
  pub ends : ValidEnds n a b
  pub m_low : negsuc 999 ≤ℤ m
  pub m_high : m ≤ℤ pos 1000
  pub k_low : negsuc 999 ≤ℤ k
  pub k_high : k ≤ℤ pos 1000
  pub lo_fits : FitsSigned w32 lo
  pub hi_fits : FitsSigned w32 hi
  pub ordered : lo ≤ℤ hi

-- a row for each value of a, with bits for the values of b only
pub record ValidTable (vs : List Variable) (a b : ℕ) (rows : List ℕ) : Type 0 where
  pub ends : ValidEnds (length vs) a b
  pub a_row_each : length rows ≡ size_at vs a
  pub low_bits : AllByRecursion (λ row. row < 2 ^ size_at vs b) rows

abbrev pub ValidConstraint : List Variable → Constraint → Type 0
ValidConstraint vs (sum a b m k lo hi) = ValidSum (length vs) a b m k lo hi
ValidConstraint vs (table a b rows) = ValidTable vs a b rows

-- any index of two bytes: whether there is such a constraint is not the sheet's matter
abbrev pub ValidMove : Move → Type 0
ValidMove (add p) = p < 65536
ValidMove (retract p) = p < 65536
