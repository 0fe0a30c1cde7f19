-- The wiped-out variable: the lowest one whose domain is empty.
use Rattle.std.specs.Prelude.{◌≡◌, ℕ, ◌<◌, true, false, Some, None, Option}
use Rattle.arcs.specs.Family.{Family}

-- no value of `i` is in
abbrev pub Empty : Family → ℕ → Type 0
Empty f i = (x : ℕ) → f i x ≡ false

-- some value of `i` is in
abbrev pub Shown : Family → ℕ → Type 0
Shown f i = (x : ℕ) × (f i x ≡ true)

-- of the variables below `n`, `i` is the lowest one whose domain is empty
pub record Lowest (f : Family) (n i : ℕ) : Type 0 where
  pub below : i < n
  pub empty : Empty f i
  pub before : (j : ℕ) → j < i → Shown f j

-- the wiped-out variable of the variables below `n`, or none where each of them has a value
abbrev pub WipedOut : Family → ℕ → Option ℕ → Type 0
WipedOut f n (Some i) = Lowest f n i
WipedOut f n None = (j : ℕ) → j < n → Shown f j
