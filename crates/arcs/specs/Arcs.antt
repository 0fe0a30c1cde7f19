-- Arcs: by what a variable can lose values.
use Rattle.std.specs.Prelude.{ℕ, Bool}

-- Variables, values and reasons are numbers. What a reason is, is left open: where the reasons are constraints, a constraint is a reason
-- at each of its two ends.
pub record Arcs : Type 0 where
  -- is the reason `r` on at the variable `i`: `on i r`
  pub on : ℕ → ℕ → Bool
  -- the variable in which a value of `i` needs a support under `r`: `far i r`
  pub far : ℕ → ℕ → ℕ
  -- does `r` let the value `x` of `i` stand beside the value `y` of the far variable: `fits i r x y`
  pub fits : ℕ → ℕ → ℕ → ℕ → Bool
