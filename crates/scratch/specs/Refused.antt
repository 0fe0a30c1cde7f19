-- When a computation from scratch is refused, and by which cause.
use Rattle.std.specs.Prelude.{ℕ, cond, List, [], ◌∷◌, length, Some, None, Option, nat_le}
use Rattle.catalog.specs.Meaning.{Meaning}
use Rattle.std.specs.Option.{option_map}
use Rattle.catalog.specs.Number.{number_of}
use Rattle.catalog.specs.Causes.{first, sizes_refusal, constraint_refusal}
use Rattle.catalog.specs.declared.refusal.Refusal.{Refusal}
use Rattle.catalog.specs.declared.refusal.Refusal.TheVariants.{ShortResult}

-- the first cause by the order of the list
abbrev pub indices_refusal : Meaning → ℕ → List ℕ → Option Refusal
indices_refusal m n [] = None
indices_refusal m n (p ∷ ps) = first (constraint_refusal m n p) (indices_refusal m n ps)

-- the sizes first, then the indices, then the length of the result list
abbrev pub refusal : Meaning → List ℕ → List ℕ → ℕ → Option Refusal
refusal m sizes indices entries =
    first (sizes_refusal sizes)
    (first (indices_refusal m (length sizes) indices) (cond (nat_le (length sizes) entries) None (Some ShortResult)))

-- the number by which it is refused, or nothing
abbrev pub refusal_number : Meaning → List ℕ → List ℕ → ℕ → Option ℕ
refusal_number m sizes indices entries = option_map number_of (refusal m sizes indices entries)
