-- The constraints of a catalog as arcs: a reason is a constraint's index, and is on at both ends of the constraint.
use Rattle.std.specs.Prelude.{ℕ, Bool, cond, ◌&&◌, ◌||◌, ◌==◌, nat_lt}
use Rattle.arcs.specs.Arcs.{Arcs}
use Rattle.catalog.specs.Meaning.{Meaning, allowed}

-- the arcs of those constraints of m that `chosen` names
abbrev pub arcs_of : Meaning → (ℕ → Bool) → Arcs
arcs_of m chosen = record {
  on = λ i p. chosen p && (nat_lt p m.count && (m.left p == i || m.right p == i));
  far = λ i p. cond (m.left p == i) (m.right p) (m.left p);
  fits = λ i p x y. cond (m.left p == i) (allowed m p x y) (allowed m p y x);
}
