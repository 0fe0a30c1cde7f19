-- Why a call is refused.
use Rattle.std.specs.Prelude.{ℕ, Bool, cond, false, length, Some, None, Option, Err, Ok, Result, nat_lt, slice_index_or}
use Rattle.catalog.specs.Meaning.{Meaning}
use Rattle.catalog.specs.Causes.{constraint_refusal, first}
use Rattle.catalog.specs.declared.refusal.Refusal.{Refusal}
use Rattle.catalog.specs.declared.refusal.Refusal.TheVariants.{AlreadyIn, NoSuchConstraint, NotIn}
use Rattle.acdc2.specs.declared.fault.Fault.{Fault}
use Rattle.acdc2.specs.declared.fault.Fault.TheVariants.{Refused, Memory}
use Rattle.acdc2.specs.declared.state.State.{State}

-- is the constraint p in
abbrev pub is_in : State → ℕ → Bool
is_in s p = slice_index_or s.present.marks p false

-- the first cause that turns an add down, and a retract
abbrev pub add_cause : Meaning → State → ℕ → Option Refusal
add_cause m s p = first (constraint_refusal m (length s.variables.items) p) (cond (is_in s p) (Some AlreadyIn) None)

abbrev pub retract_cause : Meaning → State → ℕ → Option Refusal
retract_cause m s p = cond (nat_lt p m.count) (cond (is_in s p) None (Some NotIn)) (Some NoSuchConstraint)

-- the cause by which a result is a refusal: one for want of memory is none
abbrev pub refused_by : {T : Type 0} → Result T Fault → Option Refusal
refused_by (Ok v) = None
refused_by (Err (Refused e)) = Some e
refused_by (Err Memory) = None
