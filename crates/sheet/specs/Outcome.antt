-- What the reader's answers say, as plain data.
use Rattle.std.specs.Prelude.{◌≡◌, ℕ, ◌+◌, ◌-◌, List, length, Ok, Err, Result}
use Rattle.sheet_format.specs.declared.faults.Fault.{Fault}
use Rattle.sheet_format.specs.declared.faults.RecordCause.{RecordCause}
use Rattle.sheet_format.specs.Reading.{Shown, shows_heading, shows_variable, shows_sum, shows_table, shows_short_table, shows_add, shows_retract, shows_end, taken, broken, reading}
use Rattle.sheet.specs.declared.reader.Part.{Part}
use Rattle.sheet.specs.declared.reader.Record.{Record}
use Rattle.sheet.specs.declared.reader.Record.TheVariants.{Heading, Variable, Sum, Table, ShortTable, Add, Retract, End}

-- what a record shows
abbrev pub shown_by : Record → Shown
shown_by (Heading body) = shows_heading body.now
shown_by (Variable body) = shows_variable body.now
shown_by (Sum body) = shows_sum body.now
shown_by (Table a b rows) = shows_table a b rows.bytes.now rows.place
shown_by (ShortTable body) = shows_short_table body.now
shown_by (Add body) = shows_add body.now
shown_by (Retract body) = shows_retract body.now
shown_by (End body) = shows_end body.now

-- What was taken off the bytes `xs`, which begin at a place, and what is left, which begins so many bytes further on as were taken off.
pub record TookFrom (xs : List ℕ) (place : ℕ) (found : Record) (rest : Part) : Type 0 where
  pub reads : reading xs place ≡ taken (shown_by found) rest.bytes.now
  pub next : rest.place ≡ place + (length xs - length rest.bytes.now)

-- what was taken off and what is left, or the cause
abbrev pub Taken : List ℕ → ℕ → Result (Record × Part) RecordCause → Type 0
Taken xs place (Ok pair) = TookFrom xs place pair.0 pair.1
Taken xs place (Err cause) = reading xs place ≡ broken cause

-- the reader's answer: the same, and a fault has the very place at which the bytes begin
abbrev pub Answers : List ℕ → ℕ → Result (Record × Part) (Fault RecordCause) → Type 0
Answers xs place (Ok pair) = TookFrom xs place pair.0 pair.1
Answers xs place (Err fault) = (reading xs place ≡ broken fault.cause) × (fault.byte ≡ place)
