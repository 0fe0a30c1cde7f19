-- On the way to the largest family: what stays true of a family while values without support are put out of it.
use Rattle.std.specs.Prelude.{◌≡◌, ℕ, true, ◌≢◌}
use Rattle.arcs.specs.Arcs.{Arcs}
use Rattle.arcs.specs.Family.{Family, Inside, Consistent}

-- inside the bound, and around every consistent family inside the bound
pub record Around (a : Arcs) (b f : Family) : Type 0 where
  pub inside : Inside b f
  pub contains : (g : Family) → Inside b g → Consistent a g → Inside f g

-- the value `x` of `i` has no support under `r` in `f`
abbrev pub Bare : Arcs → Family → ℕ → ℕ → ℕ → Type 0
Bare a f i r x = (y : ℕ) → f (a.far i r) y ≡ true → a.fits i r x y ≢ true

-- a reason that is on at `i` and under which `x` has no support in `f`
pub record Lost (a : Arcs) (f : Family) (i x : ℕ) : Type 0 where
  pub reason : ℕ
  pub on : a.on i reason ≡ true
  pub bare : Bare a f i reason x
