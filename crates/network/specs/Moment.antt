-- What stands in a network at a moment.
use Rattle.std.specs.Prelude.{◌≡◌, ℕ, Bool, false, List, []}
use Rattle.arcs.specs.Arcs.{Arcs}
use Rattle.arcs.specs.Family.{Family, Largest, within_sizes}
use Rattle.catalog.specs.Meaning.{Meaning}
use Rattle.catalog.specs.Constraints.{arcs_of}
use Rattle.arcs.specs.Standing.{Standing, Justified, Timed}

-- The book of a network: the size of each variable, and which constraints are in.
pub record Book : Type 0 where
  pub sizes : List ℕ
  pub present : ℕ → Bool

-- two books that say the same
pub record Agrees (b b' : Book) : Type 0 where
  pub sizes : b.sizes ≡ b'.sizes
  pub present : (p : ℕ) → b.present p ≡ b'.present p

-- the book, how the values stand, and the clock
pub record Moment : Type 0 where
  pub book : Book
  pub standing : Standing
  pub clock : ℕ

-- the values inside the sizes
abbrev pub bound : Moment → Family
bound s = within_sizes s.book.sizes

-- the constraints that are in, as arcs
abbrev pub arcs_at : Meaning → Moment → Arcs
arcs_at m s = arcs_of m s.book.present

-- Everything stands rightly: the shown values are the largest consistent domains under the constraints that are in; each value that is out has
-- a justification; and the times of justifications differ and lie below the clock.
pub record Right (m : Meaning) (s : Moment) : Type 0 where
  pub largest : Largest (arcs_at m s) (bound s) s.standing.shown
  pub justified : Justified (arcs_at m s) (bound s) s.standing
  pub timed : Timed (bound s) s.standing s.clock

-- newly made: no variable, no constraint in, clock 0
pub record Blank (s : Moment) : Type 0 where
  pub sizes : s.book.sizes ≡ []
  pub present : (p : ℕ) → s.book.present p ≡ false
  pub clock : s.clock ≡ 0
