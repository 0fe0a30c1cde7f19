-- What is asked of a solver, and what it is opened with.
use Rattle.std.specs.Prelude.{◌≡◌, ◌<◌, ◌&&◌, ℕ, List, Option, None, Some, false, length, nat_lt, replicate, slice_index, slice_index_or, unwrap_or}
use Rattle.std.specs.Option.{option_map}
use Rattle.std.specs.List.{slice_get}
use Rattle.bits.specs.Bits.{has_bit}
use Rattle.acdc2.specs.declared.state.Justification.{Justification}
use Rattle.acdc2.specs.declared.state.State.{State}
use Rattle.acdc2.specs.declared.state.Variable.{Variable}

-- the domain of the variable u, empty where there is none
abbrev pub domain_of : State → ℕ → ℕ
domain_of s u = unwrap_or (option_map (λ v. v.domain) (slice_get s.variables.items u)) 0

-- why the value d of the variable u is out
abbrev pub why_of : State → ℕ → ℕ → Option Justification
why_of s u d = unwrap_or (option_map (λ v. slice_index_or v.why d None) (slice_get s.variables.items u)) None

-- of a variable with so many values all are shown
pub record Whole (size : ℕ) (v : Variable) : Type 0 where
  pub shown : (x : ℕ) → has_bit v.domain x ≡ (nat_lt x size && nat_lt x 64)
  pub none_out : v.why ≡ replicate 64 None

-- the variables have these sizes, with every value shown, and no constraint is in
pub record Opened (sizes : List ℕ) (s : State) : Type 0 where
  pub many : length s.variables.items ≡ length sizes
  pub whole : (i : ℕ) → i < length sizes → (v : Variable) → slice_get s.variables.items i ≡ Some v → Whole (slice_index sizes i) v
  pub none_in : s.present.marks ≡ replicate 128 false
