-- Domains written out: a list of values for each variable.
use Rattle.std.specs.Prelude.{ℕ, Bool, false, ◌||◌, List, [], ◌∷◌, ◌==◌, slice_index_or}
use Rattle.arcs.specs.Family.{Family, Largest, within_sizes}
use Rattle.catalog.specs.Meaning.{Meaning}
use Rattle.catalog.specs.Constraints.{arcs_of}
use Rattle.scratch.specs.Named.{named}

-- is x in the list
abbrev pub among : ℕ → List ℕ → Bool
among x [] = false
among x (y ∷ ys) = x == y || among x ys

-- the family in which entry i of the list holds the values of variable i; variables past the list have none
abbrev pub sets_of : List (List ℕ) → Family
sets_of sets i x = among x (slice_index_or sets i [])

-- Of variables with these sizes, the domains `sets` are the largest consistent ones under those constraints of m whose indices are listed.
abbrev pub LargestUnder : Meaning → List ℕ → List ℕ → List (List ℕ) → Type 0
LargestUnder m sizes indices sets = Largest (arcs_of m (named indices)) (within_sizes sizes) (sets_of sets)
