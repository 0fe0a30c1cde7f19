-- Arcs that ask the same inside a bound.
use Rattle.std.specs.Prelude.{◌≡◌, ℕ, true}
use Rattle.arcs.specs.Arcs.{Arcs}
use Rattle.arcs.specs.Family.{Family}

-- the same reasons are on, with the same far variable, and let the same values stand beside each other inside the bound
pub record Alike (b : Family) (a a' : Arcs) : Type 0 where
  pub on : (i r : ℕ) → a'.on i r ≡ a.on i r
  pub far : (i r : ℕ) → a.on i r ≡ true → a'.far i r ≡ a.far i r
  pub fits : (i r x y : ℕ) → a.on i r ≡ true → b i x ≡ true → b (a.far i r) y ≡ true → a'.fits i r x y ≡ a.fits i r x y
