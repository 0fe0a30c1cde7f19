-- What the state of a network means, and when it is linked to a catalog.
use Rattle.std.specs.Prelude.{◌≡◌, ℕ, ◌<◌, ◌≤◌, Bool, true, false, List, length, take, slice_index, slice_index_or}
use Rattle.catalog.specs.Meaning.{Meaning, allowed}
use Rattle.domains.specs.declared.Constraints.{Constraints}
use Rattle.domains.specs.declared.Domains.{Domains}
use Rattle.domains.specs.Model.{within, is_present, left_of, right_of, pair_at, standing}
use Rattle.network.specs.Moment.{Moment}
use Rattle.network.specs.declared.state.State.{State}

-- the constraints, the domains and n variables as a moment of a network
abbrev pub moment : Constraints → Domains → ℕ → Moment
moment c d n = record { book = record { sizes = take n c.sizes; present = λ p. is_present c p }; standing = standing d; clock = d.clock }

abbrev pub moment_of : State → Moment
moment_of s = moment s.engine.constraints s.engine.domains s.variables

-- the engine has the constraint p as the catalog means it, inside the sizes
pub record Known (m : Meaning) (c : Constraints) (p : ℕ) : Type 0 where
  pub is_one : p < m.count
  pub left : left_of c p ≡ m.left p
  pub right : right_of c p ≡ m.right p
  pub rows : (x y : ℕ) → within c (m.left p) x ≡ true → within c (m.right p) y ≡ true → pair_at c p x y ≡ allowed m p x y

-- the variables have sizes and no others have; what is in is known, and what is known is as the catalog means it
pub record Links (m : Meaning) (c : Constraints) (n : ℕ) (known : List Bool) : Type 0 where
  pub few : n ≤ 32
  pub past : (i : ℕ) → n ≤ i → slice_index c.sizes i ≡ 0
  pub long : length known ≡ 128
  pub present : (p : ℕ) → is_present c p ≡ true → slice_index_or known p false ≡ true
  pub means : (p : ℕ) → slice_index_or known p false ≡ true → Known m c p

-- the state is linked to a catalog of this meaning
abbrev pub Linked : Meaning → State → Type 0
Linked m s = Links m s.engine.constraints s.variables s.known
