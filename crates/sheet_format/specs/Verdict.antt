-- The verdict on any bytes: what an accepted sheet holds, or the first fault.
use Rattle.std.specs.Prelude.{ℕ, zero, suc, ◌+◌, ◌-◌, ◌*◌, ◌^◌, Bool, true, false, cond, not, ◌&&◌, ◌||◌, List, [], ◌∷◌, ◌++◌, length, drop, ℤ, pos, negsuc, Ok, Err, Result, ◌==◌, int_le, nat_le, nat_lt, slice_index}
use Rattle.std.proofs.Common.{to_z}
use Rattle.std.specs.Int.{w16, w32}
use Rattle.sheet_format.specs.declared.found.Variable.{Variable}
use Rattle.sheet_format.specs.declared.found.Summary.{Summary}
use Rattle.sheet_format.specs.declared.faults.RecordCause.{RecordCause}
use Rattle.sheet_format.specs.declared.faults.RecordCause.TheVariants.{Missing}
use Rattle.sheet_format.specs.declared.faults.Cause.{Cause}
use Rattle.sheet_format.specs.declared.faults.Cause.TheVariants.{TooLong, OutOfTurn, TooManyConstraints, WrongLength, BadHeading, BadSize, BadHouse, BadEnds, BadSum, BadRow, Trailing}
use Rattle.sheet_format.specs.declared.faults.SheetFault.{SheetFault}
use Rattle.sheet_format.specs.declared.faults.SheetFault.TheVariants.{Record, Format}
use Rattle.sheet_format.specs.Numbers.{number2, number4, number8}
use Rattle.sheet_format.specs.Value.{size_at}
use Rattle.sheet_format.specs.Reading.{Shown, shows_heading, shows_variable, shows_sum, shows_table, shows_short_table, shows_add, shows_retract, shows_end, Reading, taken, broken, reading}

-- What the records so far have said: the number of variables that the heading gave (0 before it), the variables, how many constraints and
-- moves there were, and the place after the last record that was no move.
pub record Tally : Type 0 where
  pub n : ℕ
  pub variables : List Variable
  pub constraints : ℕ
  pub moves : ℕ
  pub reached : ℕ

abbrev pub nothing_yet : Tally
nothing_yet = record { n = 0; variables = []; constraints = 0; moves = 0; reached = 0 }

-- One record more: it goes on with a tally, or it was the end, or the record is refused for a cause.
pub data Step : Type 0 where
  goes : Tally → Step
  ends : Step
  stops : Cause → Step

-- goes on where the test holds, or stops for the cause
abbrev pub unless : Bool → Cause → Step → Step
unless holds cause next = cond holds next (stops cause)

-- the heading and all variables are there
abbrev pub complete : Tally → Bool
complete g = nat_lt 0 g.n && not (nat_lt (length g.variables) g.n)

-- constraints may come: all variables are there, and no move has come
abbrev pub constraints_due : Tally → Bool
constraints_due g = complete g && g.moves == 0

abbrev pub between : ℕ → ℕ → ℕ → Bool
between low high x = nat_le low x && nat_le x high

-- an earlier variable has the house number h
abbrev pub used : List Variable → ℕ → Bool
used [] h = false
used (v ∷ vs) h = v.house == h || used vs h

abbrev pub house_good : Tally → ℕ → Bool
house_good g h = nat_lt h g.n && not (used g.variables h)

abbrev pub ends_good : ℕ → ℕ → ℕ → Bool
ends_good n a b = nat_lt a n && (nat_lt b n && not (a == b))

abbrev pub between_z : ℤ → ℤ → ℤ → Bool
between_z low high z = int_le low z && int_le z high

-- the factors of a sum lie from -1,000 to 1,000, and its limits are in order
abbrev pub sum_good : ℤ → ℤ → ℤ → ℤ → Bool
sum_good m k lo hi = between_z (negsuc 999) (pos 1000) m && (between_z (negsuc 999) (pos 1000) k && int_le lo hi)

-- the same of a sum's body, which has its ends first
abbrev pub sum_body_good : List ℕ → Bool
sum_body_good body =
    sum_good (to_z w16 (number2 body 2)) (to_z w16 (number2 body 4)) (to_z w32 (number4 body 6)) (to_z w32 (number4 body 10))

-- the first so many rows, of eight bytes each, have no bit at or above the size
unfoldable pub rows_good : ℕ → ℕ → List ℕ → Bool
rows_good zero size rows = true
rows_good (suc count) size rows = nat_lt (number8 rows 0) (2 ^ size) && rows_good count size (drop 8 rows)

-- the variable that a record's body gives
abbrev pub variable_of : List ℕ → Variable
variable_of body = record { size = number2 body 0; house = number2 body 2 }

abbrev pub with_heading : Tally → ℕ → ℕ → Tally
with_heading g n after =
    record { n = n; variables = g.variables; constraints = g.constraints; moves = g.moves; reached = after }

abbrev pub with_variable : Tally → Variable → ℕ → Tally
with_variable g v after =
    record { n = g.n; variables = g.variables ++ (v ∷ []); constraints = g.constraints; moves = g.moves; reached = after }

abbrev pub with_constraint : Tally → ℕ → Tally
with_constraint g after =
    record { n = g.n; variables = g.variables; constraints = g.constraints + 1; moves = g.moves; reached = after }

abbrev pub with_move : Tally → Tally
with_move g =
    record { n = g.n; variables = g.variables; constraints = g.constraints; moves = g.moves + 1; reached = g.reached }

abbrev pub heading_step : Tally → List ℕ → ℕ → Step
heading_step g body after =
    unless (g.n == 0) OutOfTurn
    (unless (length body == 4) WrongLength
    (unless (number2 body 0 == 1 && between 1 32 (number2 body 2)) BadHeading
    (goes (with_heading g (number2 body 2) after))))

abbrev pub variable_step : Tally → List ℕ → ℕ → Step
variable_step g body after =
    unless (nat_lt (length g.variables) g.n) OutOfTurn
    (unless (length body == 4) WrongLength
    (unless (between 1 64 (number2 body 0)) BadSize
    (unless (house_good g (number2 body 2)) BadHouse
    (goes (with_variable g (variable_of body) after)))))

abbrev pub sum_step : Tally → List ℕ → ℕ → Step
sum_step g body after =
    unless (length body == 14) WrongLength
    (unless (ends_good g.n (slice_index body 0) (slice_index body 1)) BadEnds
    (unless (sum_body_good body) BadSum
    (goes (with_constraint g after))))

abbrev pub table_step : Tally → ℕ → ℕ → List ℕ → ℕ → Step
table_step g a b rows after =
    unless (ends_good g.n a b) BadEnds
    (unless (length rows == 8 * size_at g.variables a) WrongLength
    (unless (rows_good (size_at g.variables a) (size_at g.variables b) rows) BadRow
    (goes (with_constraint g after))))

abbrev pub move_step : Tally → List ℕ → Step
move_step g body = unless (complete g) OutOfTurn (unless (length body == 2) WrongLength (goes (with_move g)))

abbrev pub end_step : Tally → List ℕ → Step
end_step g body = unless (complete g) OutOfTurn (unless (length body == 0) WrongLength ends)

-- a constraint: in turn, and at most the 96th
abbrev pub constraint_step : Tally → Step → Step
constraint_step g next = unless (constraints_due g) OutOfTurn (unless (nat_lt g.constraints 96) TooManyConstraints next)

-- what a record that ends before the place `after` does to a tally
abbrev pub step : Tally → Shown → ℕ → Step
step g (shows_heading body) after = heading_step g body after
step g (shows_variable body) after = variable_step g body after
step g (shows_sum body) after = constraint_step g (sum_step g body after)
step g (shows_table a b rows place) after = constraint_step g (table_step g a b rows after)
step g (shows_short_table body) after = constraint_step g (stops WrongLength)
step g (shows_add body) after = move_step g body
step g (shows_retract body) after = move_step g body
step g (shows_end body) after = end_step g body

abbrev pub summary : Tally → Summary
summary g =
    record { variables = g.n; constraints = g.constraints; moves = g.moves; constraints_at = 8 + 8 * g.n; moves_at = g.reached }

abbrev pub Verdict : Type 0
Verdict = Result Summary SheetFault

abbrev pub record_fault : RecordCause → ℕ → ℕ → Verdict
record_fault cause byte records = Err (Record (record { fault = record { cause = cause; byte = byte }; records = records }))

abbrev pub format_fault : Cause → ℕ → ℕ → Verdict
format_fault cause byte records = Err (Format (record { fault = record { cause = cause; byte = byte }; records = records }))

-- after a record that began at the byte `place`, with so many records before it: `rest` is left, which begins at `after`
abbrev pub after_step : (List ℕ → ℕ → ℕ → Tally → Verdict) → Tally → ℕ → ℕ → List ℕ → ℕ → Step → Verdict
after_step go g place records rest after (goes g') = go rest after (records + 1) g'
after_step go g place records rest after ends =
    cond (length rest == 0) (Ok (summary g)) (format_fault Trailing after (records + 1))
after_step go g place records rest after (stops cause) = format_fault cause place records

abbrev pub after_reading : (List ℕ → ℕ → ℕ → Tally → Verdict) → Tally → ℕ → ℕ → ℕ → Reading → Verdict
after_reading go g place records left (taken shown rest) =
    after_step go g place records rest (place + (left - length rest)) (step g shown (place + (left - length rest)))
after_reading go g place records left (broken cause) = record_fault cause place records

-- The records one by one, at most so many, from bytes that begin at a place, with so many records before them.
unfoldable pub walked : ℕ → List ℕ → ℕ → ℕ → Tally → Verdict
walked zero xs place records g = record_fault Missing place records
walked (suc most) xs place records g = after_reading (walked most) g place records (length xs) (reading xs place)

-- A sheet of n bytes has at most n records.
abbrev pub verdict : List ℕ → Verdict
verdict xs = cond (nat_lt 65535 (length xs)) (format_fault TooLong 65535 0) (walked (suc (length xs)) xs 0 0 nothing_yet)
