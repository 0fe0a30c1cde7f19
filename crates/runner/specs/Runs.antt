-- The calls that a run makes, and what it reads from their answers.
use Rattle.std.specs.Prelude.{◌≡◌, ℕ, zero, suc, List, [], ◌∷◌, ◌++◌, map, length, Some, None, Ok, Err, Option, Result}
use Rattle.network.specs.declared.law.Answer.{Answer}
use Rattle.network.specs.declared.law.Answer.TheVariants.{Opened, Changed, Domain, Shown, Justified, Wiped, Refused}
use Rattle.network.specs.declared.law.Change.{Change}
use Rattle.network.specs.Calls.{Lengths, Call, opens, adds, retracts, asks_domain}
use Rattle.sheet.specs.declared.sheet_move.Move as sheet
use Rattle.sheet.specs.declared.sheet_move.Move.TheVariants.{Add, Retract}
use Rattle.runner.specs.declared.faults.RunFault.{RunFault}
use Rattle.runner.specs.declared.faults.RunFault.TheVariants.{Move}

-- each call is lent as much as any may need
abbrev pub whole : Lengths
whole = record { waiting = 128; returning = 2048 }

-- a move as a call
abbrev pub move_call : sheet.Move → Call
move_call (Add p) = adds p whole
move_call (Retract p) = retracts p whole

-- asking the domains of the variables below n, in order
unfoldable pub domains_asked : ℕ → List Call
domains_asked zero = []
domains_asked (suc n) = domains_asked n ++ (asks_domain n ∷ [])

-- open at time 0, make the moves, ask for each domain
abbrev pub calls_for : List ℕ → List sheet.Move → List Call
calls_for sizes moves = (opens sizes 0 ∷ map move_call moves) ++ domains_asked (length sizes)

-- what came of the move with so many before it, by the answer to it: a change, or its fault; an answer to another kind of call says nothing of it
abbrev pub outcome : ℕ → Answer → Option (Result Change RunFault)
outcome before Opened = None
outcome before (Changed c) = Some (Ok c)
outcome before (Domain d) = None
outcome before (Shown b) = None
outcome before (Justified j) = None
outcome before (Wiped o) = None
outcome before (Refused e) = Some (Err (Move (record { before = before; refusal = e })))

-- what came of each move, by the answers to them, where so many moves came before the first
abbrev pub Outcomes : ℕ → List Answer → List (Result Change RunFault) → Type 0
Outcomes before [] [] = Unit {0}
Outcomes before (a ∷ answers) (o ∷ outcomes) = (outcome before a ≡ Some o) × Outcomes (suc before) answers outcomes
Outcomes before (a ∷ answers) [] = ⊥
Outcomes before [] (o ∷ outcomes) = ⊥
