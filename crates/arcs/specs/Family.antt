-- Families of domains, and the largest consistent one inside a bound.
use Rattle.std.specs.Prelude.{◌≡◌, ℕ, Bool, true, List, nat_lt, slice_index}
use Rattle.arcs.specs.Arcs.{Arcs}

-- A family gives each variable a set of values: `f i x` says whether the value `x` is in the set of the variable `i`.
abbrev pub Family : Type 0
Family = ℕ → ℕ → Bool

-- each set of `f` lies inside that of the bound `b`
abbrev pub Inside : Family → Family → Type 0
Inside b f = (i x : ℕ) → f i x ≡ true → b i x ≡ true

-- a support of the value `x` of the variable `i` under the reason `r`, in `f`
pub record Support (a : Arcs) (f : Family) (i r x : ℕ) : Type 0 where
  pub value : ℕ
  pub shown : f (a.far i r) value ≡ true
  pub beside : a.fits i r x value ≡ true

-- under each reason that is on, each value has a support; each reason is judged by itself
abbrev pub Consistent : Arcs → Family → Type 0
Consistent a f = (i r x : ℕ) → a.on i r ≡ true → f i x ≡ true → Support a f i r x

-- consistent, inside the bound, and containing every other such family
pub record Largest (a : Arcs) (b f : Family) : Type 0 where
  pub inside : Inside b f
  pub consistent : Consistent a f
  pub contains : (g : Family) → Inside b g → Consistent a g → Inside f g

-- the bound that sizes give: variable i has the values below its size, and none past the list
abbrev pub within_sizes : List ℕ → Family
within_sizes sizes i x = nat_lt x (slice_index sizes i)
