-- What holds of largest families over any arcs.
use Rattle.std.specs.Prelude.{◌≡◌, ℕ, ◌<◌, true, ◌||◌, Option}
use Rattle.arcs.specs.Arcs.{Arcs}
use Rattle.arcs.specs.Family.{Family, Consistent, Largest}
use Rattle.arcs.specs.WipedOut.{WipedOut}

-- Only finitely much can go out: the bound has values only below a number, at variables below a number, and the reasons that are on at those
-- variables lie below a number.
pub record Finite (a : Arcs) (b : Family) : Type 0 where
  pub variables : ℕ
  pub values : ℕ
  pub reasons : ℕ
  pub low_variable : (i x : ℕ) → b i x ≡ true → i < variables
  pub low_value : (i x : ℕ) → b i x ≡ true → x < values
  pub low_reason : (i r : ℕ) → i < variables → a.on i r ≡ true → r < reasons

-- a value is in the union when it is in one of the two
abbrev pub union : Family → Family → Family
union f g i x = f i x || g i x

-- the union of two consistent families is consistent
abbrev pub UnionConsistent : Type 0
UnionConsistent = (a : Arcs) (f g : Family) → Consistent a f → Consistent a g → Consistent a (union f g)

-- at most one family is largest
abbrev pub OneLargest : Type 0
OneLargest = (a : Arcs) (b f g : Family) → Largest a b f → Largest a b g → (i x : ℕ) → f i x ≡ g i x

-- and there is one
abbrev pub SomeLargest : Type 0
SomeLargest = (a : Arcs) (b : Family) → Finite a b → (f : Family) × Largest a b f

-- at most one answer names the wiped-out variable
abbrev pub OneWipedOut : Type 0
OneWipedOut = (f : Family) (n : ℕ) (o p : Option ℕ) → WipedOut f n o → WipedOut f n p → o ≡ p
