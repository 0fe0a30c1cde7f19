-- What the computation from scratch writes.
use Rattle.std.specs.Prelude.{◌≡◌, ℕ, List, length, take, drop}
use Rattle.arcs.specs.Family.{Family, Largest, within_sizes}
use Rattle.bits.specs.Bits.{domains_of}
use Rattle.catalog.specs.Meaning.{Meaning}
use Rattle.catalog.specs.Constraints.{arcs_of}
use Rattle.scratch.specs.Named.{named}

-- The first entries, one for each variable, are the largest domains for the constraints named inside the sizes: the largest family, and the only
-- one that is. Entries past them are as they were.
pub record Written (m : Meaning) (sizes indices before after : List ℕ) : Type 0 where
  pub largest : Largest (arcs_of m (named indices)) (within_sizes sizes) (domains_of (take (length sizes) after))
  pub only
      : (f : Family) → Largest (arcs_of m (named indices)) (within_sizes sizes) f → (i x : ℕ)
      → f i x ≡ domains_of (take (length sizes) after) i x
  pub rest : drop (length sizes) after ≡ drop (length sizes) before
