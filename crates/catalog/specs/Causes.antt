-- Which causes hold: of the sizes of the variables, and of one constraint.
use Rattle.std.specs.Prelude.{ℕ, Bool, cond, ◌&&◌, List, length, Some, None, Option, nat_lt}
use Rattle.std.specs.List.{list_all}
use Rattle.catalog.specs.Meaning.{Meaning}
use Rattle.catalog.specs.declared.refusal.Refusal.{Refusal}
use Rattle.catalog.specs.declared.refusal.Refusal.TheVariants.{VariableCount, DomainSize, NoSuchConstraint, EndOutside}

-- the first of two causes, where there is one
abbrev pub first : Option Refusal → Option Refusal → Option Refusal
first (Some e) later = Some e
first None later = later

-- each size is from 1 to 64
abbrev pub sizes_fit : List ℕ → Bool
sizes_fit sizes = list_all (λ s. nat_lt 0 s && nat_lt s 65) sizes

-- the sizes: from 1 to 32 of them, each from 1 to 64
abbrev pub sizes_refusal : List ℕ → Option Refusal
sizes_refusal sizes =
    cond (nat_lt 0 (length sizes) && nat_lt (length sizes) 33) (cond (sizes_fit sizes) None (Some DomainSize)) (Some VariableCount)

-- the constraint p: one of the catalog's, between two of the n variables
abbrev pub constraint_refusal : Meaning → ℕ → ℕ → Option Refusal
constraint_refusal m n p =
    cond (nat_lt p m.count) (cond (nat_lt (m.left p) n && nat_lt (m.right p) n) None (Some EndOutside)) (Some NoSuchConstraint)
