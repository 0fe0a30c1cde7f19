-- The calls on a network.
use Rattle.std.specs.Prelude.{ℕ, List}

-- the lengths of the two lent buffers: for constraints that wait, and for values that come back
pub record Lengths : Type 0 where
  pub waiting : ℕ
  pub returning : ℕ

pub data Call : Type 0 where
  -- sizes, and a first time
  opens : List ℕ → ℕ → Call
  -- a constraint
  adds : ℕ → Lengths → Call
  retracts : ℕ → Lengths → Call
  -- a variable
  asks_domain : ℕ → Call
  -- a variable and a value
  asks_shown : ℕ → ℕ → Call
  asks_justification : ℕ → ℕ → Call
  asks_wiped : Call
