-- What the methods of the check's progress answer, as steps of the definition.
use Rattle.std.specs.Prelude.{◌≡◌, ℕ, ◌<◌, ◌≤◌, Bool, true, false, cond, length, Ok, Err, Result}
use Rattle.std.specs.declared.ops.ControlFlow.{ControlFlow}
use Rattle.std.specs.declared.ops.ControlFlow.TheVariants.{Continue, Break}
use Rattle.sheet_format.specs.declared.faults.Cause.{Cause}
use Rattle.sheet_format.specs.declared.found.Summary.{Summary}
use Rattle.sheet_format.specs.Verdict.{Tally, Step, goes, ends, stops, summary, constraints_due, constraint_step, with_heading, with_variable, with_constraint, with_move}
use Rattle.sheet.specs.declared.progress.Next.{Next}
use Rattle.sheet.specs.declared.progress.Next.TheVariants.{Heading, Variable, Constraint, Move, End}

-- no record comes after it
abbrev pub is_end : Next → Bool
is_end (Heading n) = false
is_end (Variable v) = false
is_end Constraint = false
is_end Move = false
is_end End = true

-- the bytes to be kept for the end after it
abbrev pub kept : Next → ℕ
kept next = cond (is_end next) 0 4

-- what a record that adds this does to a tally, if it ends before a place
abbrev pub next_step : Tally → ℕ → Next → Step
next_step g after (Heading n) = goes (with_heading g n after)
next_step g after (Variable v) = goes (with_variable g v after)
next_step g after Constraint = goes (with_constraint g after)
next_step g after Move = goes (with_move g)
next_step g after End = ends

-- there is room for what is added
abbrev pub Fits : Tally → Next → Type 0
Fits g (Heading n) = (n ≤ 32) × (length g.variables ≤ n)
Fits g (Variable v) = (length g.variables < g.n) × (v.size ≤ 64)
Fits g Constraint = g.constraints < 96
Fits g Move = Unit {0}
Fits g End = Unit {0}

-- the answer is that of these steps, wherever the record ends; what is to be added has room
abbrev pub Judged : Tally → (ℕ → Step) → Result Next Cause → Type 0
Judged g steps (Ok next) = ((after : ℕ) → steps after ≡ next_step g after next) × Fits g next
Judged g steps (Err cause) = (after : ℕ) → steps after ≡ stops cause

-- the tally after a step that does not stop; the end leaves it
abbrev pub Became : Tally → Step → Tally → Type 0
Became g (goes next) h = h ≡ next
Became g ends h = h ≡ g
Became g (stops cause) h = Unit {0}

-- the step goes on to the tally h, or is the end of the sheet of the tally g, or stops; the last two leave g as it was
abbrev pub Flows : Tally → Step → Result (ControlFlow Summary Unit) Cause → Tally → Type 0
Flows g s (Ok (Continue x)) h = s ≡ goes h
Flows g s (Ok (Break found)) h = (s ≡ ends) × (found ≡ summary g) × (h ≡ g)
Flows g s (Err cause) h = (s ≡ stops cause) × (h ≡ g)

-- a constraint may come to this tally, or it is refused whatever it says
abbrev pub Turn : Tally → Result Unit Cause → Type 0
Turn g (Ok x) = (constraints_due g ≡ true) × (g.constraints < 96)
Turn g (Err cause) = (next : Step) → constraint_step g next ≡ stops cause
