-- What calls on the network of a run lead to.
use Rattle.std.specs.Prelude.{◌≡◌, ℕ, List, ◌∷◌, [], Some, Result}
use Rattle.catalog.specs.Meaning.{Meaning}
use Rattle.network.specs.declared.law.Answer.{Answer}
use Rattle.network.specs.declared.law.Change.{Change}
use Rattle.network.specs.Buffers.{Buffers}
use Rattle.network.specs.Calls.{Call}
use Rattle.network.specs.History.{History}
use Rattle.network.specs.Moment.{Moment}
use Rattle.network.specs.Model.{moment_of}
use Rattle.network.specs.Performs.{buffers}
use Rattle.network.specs.Served.{Stands}
use Rattle.sheet.specs.declared.sheet_move.Move.{Move}
use Rattle.runner.specs.declared.faults.RunFault.{RunFault}
use Rattle.runner.specs.declared.running.Running.{Running}
use Rattle.runner.specs.Runs.{move_call, outcome, Outcomes}

-- what stands in the network, and what the buffers hold
abbrev pub moment_at : {C : Type 0} → Running C → Moment
moment_at r = moment_of r.network.state

abbrev pub held : {C : Type 0} → Running C → Buffers
held r = buffers r.waiting r.returning

-- how many values each variable has
abbrev pub sizes_at : {C : Type 0} → Running C → List ℕ
sizes_at r = (moment_at r).book.sizes

-- these calls, with these answers, led from one to the other by the law of networks, and the network is linked to its catalog still
pub record Led {C : Type 0} (meaning : C → Meaning) (r : Running C) (calls : List Call) (answers : List Answer) (r' : Running C) : Type 0 where
  pub stands : Stands meaning r'.network
  pub catalog : r'.network.catalog ≡ r.network.catalog
  pub history : History (meaning r.network.catalog) (moment_at r) (held r) calls answers (moment_at r') (held r')

-- the move with so many before it was made, and this came of it
pub record MadeOne {C : Type 0} (meaning : C → Meaning) (r : Running C) (before : ℕ) (m : Move) (o : Result Change RunFault) (r' : Running C) : Type 0 where
  pub answer : Answer
  pub led : Led meaning r (move_call m ∷ []) (answer ∷ []) r'
  pub outcome : outcome before answer ≡ Some o
  pub sizes : sizes_at r' ≡ sizes_at r

-- the moves were made, with these outcomes
pub record MadeAll {C : Type 0} (meaning : C → Meaning) (r : Running C) (moves : List Call) (os : List (Result Change RunFault)) (r' : Running C) : Type 0 where
  pub answers : List Answer
  pub led : Led meaning r moves answers r'
  pub outcomes : Outcomes 0 answers os
  pub sizes : sizes_at r' ≡ sizes_at r
