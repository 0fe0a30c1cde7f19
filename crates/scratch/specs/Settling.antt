-- What the steps on the way to the largest domains do.
use Rattle.std.specs.Prelude.{◌≡◌, ℕ, ◌^◌, ◌<◌, ◌≤◌, Bool, true, false, ◌&&◌, ◌⊎◌, List, Option, sum, bit_and, nat_lt, slice_index, slice_set}
use Rattle.arcs.specs.Arcs.{Arcs}
use Rattle.arcs.specs.Family.{Family, Support}
use Rattle.arcs.specs.Around.{Around}
use Rattle.bits.specs.Bits.{has_bit, domains_of}
use Rattle.scratch.specs.declared.arc.Arc.{Arc}
use Rattle.scratch.specs.Rows.{on_at, arc_at, arcs_of_rows}

-- each arc that is on lies between two of the first n variables
abbrev pub Placed : List (Option Arc) → ℕ → Type 0
Placed ks n = (k : ℕ) → on_at ks k ≡ true → ((arc_at ks k).near < n) × ((arc_at ks k).far < n)

-- the values of `near` that have a support in `far`
abbrev pub stays : Arc → ℕ → ℕ → ℕ → Bool
stays arc near far x = has_bit near x && nat_lt 0 (bit_and (slice_index arc.rows x) far)

-- the domain of the near variable loses what has no support, and nothing else changes; `lost` says whether it lost anything
pub record Revised (arc : Arc) (before after : List ℕ) (lost : Bool) : Type 0 where
  pub left : ℕ
  pub fits : left < 2 ^ 64
  pub kept : (x : ℕ) → has_bit left x ≡ stays arc (slice_index before arc.near) (slice_index before arc.far) x
  pub is_set : after ≡ slice_set before arc.near left
  pub same : lost ≡ false → after ≡ before
  pub fewer : lost ≡ true → left < slice_index before arc.near

-- under the reason k, each value of i has a support
abbrev pub Settled : Arcs → Family → ℕ → ℕ → Type 0
Settled a f i k = (x : ℕ) → f i x ≡ true → Support a f i k x

-- each reason whose far variable is not in the set `stale` is settled
abbrev pub Waits : Arcs → ℕ → Family → Type 0
Waits a stale f = (i k : ℕ) → a.on i k ≡ true → has_bit stale (a.far i k) ≡ false → Settled a f i k

-- The arcs below `upto` have been revised where their far variable was in `stale`; the variables that lost values are in `next`.
pub record Swept (ks : List (Option Arc)) (stale upto : ℕ) (before after : List ℕ) (next : ℕ) : Type 0 where
  pub around : (b : Family) → Around (arcs_of_rows ks) b (domains_of before) → Around (arcs_of_rows ks) b (domains_of after)
  pub settled
      : Waits (arcs_of_rows ks) stale (domains_of before) → (i k : ℕ) → (arcs_of_rows ks).on i k ≡ true
      → (k < upto) ⊎ (has_bit stale ((arcs_of_rows ks).far i k) ≡ false) → has_bit next ((arcs_of_rows ks).far i k) ≡ false
      → Settled (arcs_of_rows ks) (domains_of after) i k
  pub no_more : sum after ≤ sum before
  pub fewer : 0 < next → sum after < sum before
