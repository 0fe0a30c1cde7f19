-- What a writer of sheets knows, and what each of its calls does to it and to the buffer.
use Rattle.std.specs.Prelude.{◌≡◌, ℕ, ◌+◌, Bool, true, false, cond, not, ◌&&◌, List, ◌++◌, length, take, drop, Some, Ok, Err, Result, nat_lt}
use Rattle.sheet_format.specs.declared.found.Variable.{Variable}
use Rattle.sheet_format.specs.declared.writing.WriteFault.{WriteFault}
use Rattle.sheet_format.specs.declared.writing.WriteFault.TheVariants.{Format, ShortBuffer, Closed}
use Rattle.sheet_format.specs.Value.{Constraint, Move}
use Rattle.sheet_format.specs.Encoding.{Raw, framed, heading_record, variable_record, constraint_record, move_record, end_record}
use Rattle.sheet_format.specs.Reading.{Shown, shown}
use Rattle.sheet_format.specs.Verdict.{Tally, nothing_yet, Step, goes, ends, stops, step}
use Rattle.sheet_format.specs.Faults.{cause_number}

abbrev pub write_number : WriteFault → ℕ
write_number (Format cause) = cause_number cause
write_number ShortBuffer = 42
write_number Closed = 43

-- one entry of a sheet
pub data Entry : Type 0 where
  heads : ℕ → Entry
  has_variable : Variable → Entry
  has_constraint : Constraint → Entry
  has_move : Move → Entry
  ends_here : Entry

abbrev pub entry_record : Entry → Raw
entry_record (heads n) = heading_record n
entry_record (has_variable v) = variable_record v
entry_record (has_constraint c) = constraint_record c
entry_record (has_move m) = move_record m
entry_record ends_here = end_record

-- What a writer knows: the check's tally of the records so far, the place that they reach, and whether more may come: it is neither ended nor
-- abandoned.
pub record WriterState : Type 0 where
  pub tally : Tally
  pub place : ℕ
  pub is_open : Bool

-- nothing is written
abbrev pub new_writer : WriterState
new_writer = record { tally = nothing_yet; place = 0; is_open = true }

abbrev pub closed : WriterState → WriterState
closed p = record { tally = p.tally; place = p.place; is_open = false }

-- what ends before this place lies in a buffer of so many bytes, and in the 65,535 bytes of a sheet
abbrev pub lies_in : ℕ → ℕ → Bool
lies_in size after = not (nat_lt size after) && not (nat_lt 65535 after)

-- A record that ends before the place `after`, by the check's step. One that is not the end leaves room for the four bytes of the end.
abbrev pub put_step : WriterState → ℕ → ℕ → Step → Result WriterState WriteFault
put_step p size after (goes g) =
    cond (lies_in size (after + 4)) (Ok (record { tally = g; place = after; is_open = true })) (Err ShortBuffer)
put_step p size after ends =
    cond (lies_in size after) (Ok (record { tally = p.tally; place = after; is_open = false })) (Err ShortBuffer)
put_step p size after (stops cause) = Err (Format cause)

-- the writer after a record of so many bytes is put into a buffer of a size, or why it is refused
abbrev pub put : WriterState → ℕ → Shown → ℕ → Result WriterState WriteFault
put p size s long = cond p.is_open (put_step p size (p.place + long) (step p.tally s (p.place + long))) (Err Closed)

-- a buffer with these bytes from a place on, and all others as they were
abbrev pub laid : ℕ → List ℕ → List ℕ → List ℕ
laid place bytes buffer = take place buffer ++ (bytes ++ drop (place + length bytes) buffer)

-- A call that puts a record: the writer after it, and the answer, which is the place reached; the bytes stand in the buffer from the old place on.
-- Or it is refused, and writer and buffer are as they were.
abbrev pub Puts : WriterState → List ℕ → Shown → List ℕ → WriterState → List ℕ → Result ℕ WriteFault → Type 0
Puts p xs s bytes q ys (Ok place) = (put p (length xs) s (length bytes) ≡ Ok q) × (place ≡ q.place) × (ys ≡ laid p.place bytes xs)
Puts p xs s bytes q ys (Err fault) = (put p (length xs) s (length bytes) ≡ Err fault) × (q ≡ p) × (ys ≡ xs)

-- the same of a record, by what it shows where it is put
abbrev pub PutsRecord : WriterState → List ℕ → Raw → WriterState → List ℕ → Result ℕ WriteFault → Type 0
PutsRecord p xs raw q ys r = (s : Shown) × (shown raw.kind raw.body p.place ≡ Some s) × Puts p xs s (framed raw) q ys r

-- the same of an entry
abbrev pub PutsEntry : WriterState → List ℕ → Entry → WriterState → List ℕ → Result ℕ WriteFault → Type 0
PutsEntry p xs e = PutsRecord p xs (entry_record e)

-- a call that closes an open writer and writes nothing; its answer is the place reached
abbrev pub Abandons : WriterState → WriterState → Result ℕ WriteFault → Type 0
Abandons p q (Ok place) = (p.is_open ≡ true) × (q ≡ closed p) × (place ≡ p.place)
Abandons p q (Err fault) = (p.is_open ≡ false) × (q ≡ p) × (fault ≡ Closed)
