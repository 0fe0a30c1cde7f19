-- What catalogs of constraints mean, each with two ends and a relation.
use Rattle.std.specs.Prelude.{◌<◌, Bool, false, List, ℕ, min, unwrap_or, slice_index}
use Rattle.std.specs.Option.{option_map}
use Rattle.std.specs.List.{slice_get}
use Rattle.std.proofs.Math.Nat.{min-le_right}
use Rattle.std.proofs.Common.{le_trans, arith, lit<, lit≤}
use Rattle.bits.specs.Bits.{has_bit}
use Rattle.catalog.specs.Meaning.{Meaning, Lawful}
use Rattle.random.specs.declared.ends.Ends.{Ends}
use Rattle.random.specs.declared.drawn.Constraint.{Constraint}

-- what stands where there is no constraint
abbrev pub no_ends : Ends
no_ends = record { left = 0; right = 1; left_low = lit< tt; right_low = lit< tt; apart = λ e. omega arith }

-- both ends are below so many variables
abbrev pub LieBelow : ℕ → Ends → Type 0
LieBelow span ends = (ends.left < span) × (ends.right < span)

module _ {R : Type 0} where
  abbrev pub ends_at : List (Constraint R) → ℕ → Ends
  ends_at list p = unwrap_or (option_map (λ c. c.ends) (slice_get list p)) no_ends

  -- the first so many of up to 24 constraints from a list
  abbrev pub drawn : (R → ℕ → ℕ → Bool) → ℕ → List (Constraint R) → Meaning
  drawn allowed count list = record {
    count = min count 24;
    left = λ p. (ends_at list p).left;
    right = λ p. (ends_at list p).right;
    allows = λ p x y. unwrap_or (option_map (λ c. allowed c.relation x y) (slice_get list p)) false;
  }

  pub drawn_lawful : (allowed : R → ℕ → ℕ → Bool) (count : ℕ) (list : List (Constraint R)) → Lawful (drawn allowed count list)
  drawn_lawful allowed count list = record {
    few = le_trans (min-le_right count 24) (lit≤ tt);
    left_low = λ p h. (ends_at list p).left_low;
    right_low = λ p h. (ends_at list p).right_low;
    apart = λ p h. (ends_at list p).apart;
  }

-- a table of 64 rows, one for each value of its left end
abbrev pub in_table : List ℕ → ℕ → ℕ → Bool
in_table rows x y = has_bit (slice_index rows x) y
