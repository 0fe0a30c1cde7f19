-- What taking one record off some bytes gives.
use Rattle.std.specs.Prelude.{ℕ, ◌+◌, cond, ◌||◌, List, length, take, drop, Some, None, Option, ◌==◌, nat_lt, slice_index}
use Rattle.sheet_format.specs.Numbers.{number2}
use Rattle.sheet_format.specs.declared.faults.RecordCause.{RecordCause}
use Rattle.sheet_format.specs.declared.faults.RecordCause.TheVariants.{Missing, BadLength, UnknownKind}

-- What a record shows: by its kind, its body; of a table whose ends are there, the ends, the bytes of the rows and where in the sheet those
-- begin.
pub data Shown : Type 0 where
  shows_heading : List ℕ → Shown
  shows_variable : List ℕ → Shown
  shows_sum : List ℕ → Shown
  shows_table : (a b : ℕ) (rows : List ℕ) (place : ℕ) → Shown
  shows_short_table : List ℕ → Shown
  shows_add : List ℕ → Shown
  shows_retract : List ℕ → Shown
  shows_end : List ℕ → Shown

-- a table that begins at a place; its rows begin six bytes further on
abbrev pub shown_table : List ℕ → ℕ → Shown
shown_table body place =
    cond (nat_lt (length body) 2) (shows_short_table body)
    (shows_table (slice_index body 0) (slice_index body 1) (drop 2 body) (place + 6))

-- the record of a kind with a body that begins at a place, or nothing if there is no such kind
abbrev pub shown : ℕ → List ℕ → ℕ → Option Shown
shown kind body place =
    cond (kind == 1) (Some (shows_heading body))
    (cond (kind == 2) (Some (shows_variable body))
    (cond (kind == 3) (Some (shows_sum body))
    (cond (kind == 4) (Some (shown_table body place))
    (cond (kind == 5) (Some (shows_add body))
    (cond (kind == 6) (Some (shows_retract body))
    (cond (kind == 7) (Some (shows_end body)) None))))))

-- A record was taken off, and what follows it is left; or there is none to take, for a cause.
pub data Reading : Type 0 where
  taken : Shown → List ℕ → Reading
  broken : RecordCause → Reading

abbrev pub taken_if : Option Shown → List ℕ → Reading
taken_if (Some s) rest = taken s rest
taken_if None rest = broken UnknownKind

-- taking a record off bytes that begin at a place of the sheet
abbrev pub reading : List ℕ → ℕ → Reading
reading xs place =
    cond (length xs == 0) (broken Missing)
    (cond (nat_lt (length xs) 4) (broken BadLength)
    (cond (nat_lt (number2 xs 0) 4 || nat_lt (length xs) (number2 xs 0)) (broken BadLength)
    (taken_if (shown (number2 xs 2) (drop 4 (take (number2 xs 0) xs)) place) (drop (number2 xs 0) xs))))
