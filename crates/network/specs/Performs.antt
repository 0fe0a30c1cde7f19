-- What a call does to the state of a network.
use Rattle.std.specs.Prelude.{◌≡◌, ℕ, true, false, not, ◌&&◌, List, length, Ok, Err, Option, Result, nat_lt, slice_index, slice_index_or}
use Rattle.catalog.specs.Meaning.{Meaning}
use Rattle.catalog.specs.declared.refusal.Refusal.{Refusal}
use Rattle.catalog.specs.declared.refusal.Refusal.TheVariants.{AlreadyIn, NoSuchConstraint, NoSuchValue, NotIn}
use Rattle.catalog.specs.Causes.{constraint_refusal, first}
use Rattle.network.specs.declared.law.Answer.{Answer}
use Rattle.network.specs.declared.law.Answer.TheVariants.{Refused}
use Rattle.domains.specs.Model.{is_present}
use Rattle.domains.specs.declared.Returning.{Returning}
use Rattle.network.specs.Buffers.{Buffers}
use Rattle.network.specs.Calls.{Call, Lengths}
use Rattle.network.specs.History.{Performed}
use Rattle.network.specs.Refusals.{lent_refusal, spent, when}
use Rattle.network.specs.Step.{Step}
use Rattle.network.specs.declared.state.State.{State}
use Rattle.network.specs.Model.{Linked, moment_of}

-- the call led from one state to the other by a step of the law, and the other is linked to the catalog
pub record Took (m : Meaning) (s : State) (k : Call) (a : Answer) (s' : State) : Type 0 where
  pub linked : Linked m s'
  pub step : Step m (moment_of s) k a (moment_of s')

-- it does so from every state that is linked to the catalog
abbrev pub Performs : Meaning → State → Call → Answer → State → Type 0
Performs m s k a s' = Linked m s → Took m s k a s'

-- what two buffers hold
abbrev pub buffers : List ℕ → List Returning → Buffers
buffers waiting returning = record { waiting = waiting; returning = returning }

-- the same of a call that is lent buffers: it led from what stood in state and buffers to what stands in them now
pub record TookLent (m : Meaning) (s : State) (b : Buffers) (k : Call) (a : Answer) (s' : State) (b' : Buffers) : Type 0 where
  pub linked : Linked m s'
  pub performed : Performed m (moment_of s) b k a (moment_of s') b'

-- a result as an answer
abbrev pub answer_by : {T : Type 0} → (T → Answer) → Result T Refusal → Answer
answer_by f (Ok v) = f v
answer_by f (Err e) = Refused e

-- the lengths of two buffers
abbrev pub lengths_of : List ℕ → List Returning → Lengths
lengths_of waiting returning = record { waiting = length waiting; returning = length returning }

-- the constraint p has become known, or was so; nothing else has changed
pub record Learnt (m : Meaning) (p : ℕ) (s s' : State) : Type 0 where
  pub linked : Linked m s'
  pub known : slice_index_or s'.known p false ≡ true
  pub sizes : s'.engine.constraints.sizes ≡ s.engine.constraints.sizes
  pub present : s'.engine.constraints.present ≡ s.engine.constraints.present
  pub domains : s'.engine.domains ≡ s.engine.domains
  pub variables : s'.variables ≡ s.variables

-- the first cause that turns an add down, and a retract
abbrev pub add_cause : Meaning → State → ℕ → Lengths → Option Refusal
add_cause m s p lengths = first (constraint_refusal m s.variables p) (first (when (is_present s.engine.constraints p) AlreadyIn) (lent_refusal lengths (spent s.engine.domains.clock)))

abbrev pub retract_cause : Meaning → State → ℕ → Lengths → Option Refusal
retract_cause m s p lengths = first (when (not (nat_lt p m.count)) NoSuchConstraint) (first (when (not (is_present s.engine.constraints p)) NotIn) (lent_refusal lengths (spent s.engine.domains.clock)))

-- the cause that turns down a question about the value x of the variable i
abbrev pub value_cause : State → ℕ → ℕ → Option Refusal
value_cause s i x = when (not (nat_lt i s.variables && nat_lt x (slice_index s.engine.constraints.sizes i))) NoSuchValue
