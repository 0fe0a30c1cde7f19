-- What the plain data means: arcs, a bound, and how the values stand.
use Rattle.std.specs.Prelude.{ℕ, ◌+◌, ◌*◌, Bool, false, cond, ◌&&◌, ◌||◌, List, [], ◌∷◌, ◌==◌, count_ones, nat_lt, slice_index, slice_index_or}
use Rattle.arcs.specs.Arcs.{Arcs}
use Rattle.arcs.specs.Family.{Family, within_sizes}
use Rattle.bits.specs.Bits.{has_bit, domains_of}
use Rattle.arcs.specs.Standing.{Standing, Reasons}
use Rattle.domains.specs.declared.Constraints.{Constraints}
use Rattle.domains.specs.declared.Domains.{Domains}
use Rattle.domains.specs.declared.Ends.{Ends}
use Rattle.domains.specs.declared.Justification.{Justification}

-- the values below the sizes
abbrev pub within : Constraints → Family
within c = within_sizes c.sizes

abbrev pub is_present : Constraints → ℕ → Bool
is_present c p = slice_index_or c.present p false

-- the ends of what is not there
abbrev pub no_ends : Ends
no_ends = record { left = 0; right = 0 }

abbrev pub left_of : Constraints → ℕ → ℕ
left_of c p = (slice_index_or c.ends p no_ends).left

abbrev pub right_of : Constraints → ℕ → ℕ
right_of c p = (slice_index_or c.ends p no_ends).right

-- the row of the value x on a side: 2 * p is that of the left end of p, 2 * p + 1 that of its right end
abbrev pub row : Constraints → ℕ → ℕ → ℕ
row c side x = slice_index (slice_index_or c.rows side []) x

-- does p let x of its left end stand beside y of its right end
unfoldable pub pair_at : Constraints → ℕ → ℕ → ℕ → Bool
pair_at c p x y = nat_lt x 64 && has_bit (row c (2 * p) x) y

-- the constraints that are in, as arcs: a reason is a constraint's index, and is on at both ends
abbrev pub arcs_of : Constraints → Arcs
arcs_of c = record {
  on = λ i p. nat_lt p 128 && (is_present c p && (left_of c p == i || right_of c p == i));
  far = λ i p. cond (left_of c p == i) (right_of c p) (left_of c p);
  fits = λ i p x y. cond (left_of c p == i) (pair_at c p x y) (pair_at c p y x);
}

-- the shown values
abbrev pub shown : Domains → Family
shown d = domains_of d.sets

-- the justification of what is not there
abbrev pub no_justification : Justification
no_justification = record { constraint = 0; time = 0 }

-- what stands of the value x of the variable i
abbrev pub entry : List (List Justification) → ℕ → ℕ → Justification
entry why i x = slice_index_or (slice_index_or why i []) x no_justification

abbrev pub standing : Domains → Standing
standing d = record { shown = shown d; reason = λ i x. (entry d.why i x).constraint; time = λ i x. (entry d.why i x).time }

-- how many values are shown
abbrev pub total : List ℕ → ℕ
total [] = 0
total (d ∷ ds) = count_ones d + total ds

-- the reasons that are the constraint p
abbrev pub reason_is : ℕ → Reasons
reason_is p i r = r == p
