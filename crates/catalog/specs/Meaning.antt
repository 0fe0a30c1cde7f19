-- What a catalog of constraints means, and what its three questions are to answer.
use Rattle.std.specs.Prelude.{ℕ, ◌<◌, ◌≤◌, Bool, cond, ◌&&◌, Some, None, Option, ◌≢◌, nat_lt}

-- Constraints by their index, from 0 to below a count: the two ends of each, and for each pair of values whether it is allowed. Only what
-- is said of indices below the count and of values below 64 counts.
pub record Meaning : Type 0 where
  pub count : ℕ
  -- the variable whose values come first in a pair, and the other one
  pub left : ℕ → ℕ
  pub right : ℕ → ℕ
  -- `allows p x y`: the constraint p lets x, of its left end, stand beside y, of its right end
  pub allows : ℕ → ℕ → ℕ → Bool

-- at most 128 constraints, each between two different variables below 32
pub record Lawful (m : Meaning) : Type 0 where
  pub few : m.count ≤ 128
  pub left_low : (p : ℕ) → p < m.count → m.left p < 32
  pub right_low : (p : ℕ) → p < m.count → m.right p < 32
  pub apart : (p : ℕ) → p < m.count → m.left p ≢ m.right p

-- the two ends of the constraint p, or nothing where there is none
abbrev pub ends_of : Meaning → ℕ → Option (ℕ × ℕ)
ends_of m p = cond (nat_lt p m.count) (Some (m.left p, m.right p)) None

-- does p allow x beside y: no where there is no such constraint or a value is above 63
abbrev pub allowed : Meaning → ℕ → ℕ → ℕ → Bool
allowed m p x y = nat_lt p m.count && (nat_lt x 64 && (nat_lt y 64 && m.allows p x y))

-- what is always so of an answer about ends: two different variables below 32
abbrev pub GoodEnds : Option (ℕ × ℕ) → Type 0
GoodEnds None = Unit {0}
GoodEnds (Some e) = (e.0 < 32) × (e.1 < 32) × (e.0 ≢ e.1)
