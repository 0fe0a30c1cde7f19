-- What is put into a buffer of an accepted sheet's records.
use Rattle.std.specs.Prelude.{◌≡◌, ℕ, ◌+◌, ◌/◌, ◌<◌, ◌≤◌, min, List, ◌++◌, length, Ok, Err, Result}
use Rattle.sheet_format.specs.declared.found.Summary.{Summary}
use Rattle.sheet_format.specs.declared.writing.WriteFault.{WriteFault}
use Rattle.sheet_format.specs.declared.writing.WriteFault.TheVariants.{ShortBuffer}
use Rattle.sheet_format.specs.Numbers.{number2}
use Rattle.sheet_format.specs.Value.{table, add, retract}
use Rattle.sheet_format.specs.Reading.{Shown, shows_heading, shows_variable, shows_sum, shows_table, shows_short_table, shows_add, shows_retract, shows_end}
use Rattle.sheet_format.specs.Decoding.{rows_in, sum_in, table_in}
use Rattle.sheet_format.specs.Encoding.{Raw, framed}
use Rattle.sheet_format.specs.Beginnings.{Begun, bytes_begun, Keeps}
use Rattle.sheet_format.specs.Verdict.{variable_of, verdict}
use Rattle.sheet_format.specs.Faults.{fault_number}
use Rattle.sheet_format.specs.Writing.{write_number, Entry, heads, has_variable, has_constraint, has_move, ends_here, laid}
use Rattle.sheet.specs.declared.copying.RewriteFault.{RewriteFault}
use Rattle.sheet.specs.declared.copying.RewriteFault.TheVariants.{Sheet, Write}

-- the check accepts these bytes
pub record IsAccepted (xs : List ℕ) : Type 0 where
  pub found : Summary
  pub is : verdict xs ≡ Ok found

-- the entry that a record says
abbrev pub entry_in : Shown → Entry
entry_in (shows_heading body) = heads (number2 body 2)
entry_in (shows_variable body) = has_variable (variable_of body)
entry_in (shows_sum body) = has_constraint (sum_in body)
entry_in (shows_table a b rows place) = has_constraint (table a b (rows_in (length rows / 8) rows))
entry_in (shows_short_table body) = has_constraint (table_in body)
entry_in (shows_add body) = has_move (add (number2 body 0))
entry_in (shows_retract body) = has_move (retract (number2 body 0))
entry_in (shows_end body) = ends_here

-- both ends of a constraint are there, and a table has at most 64 rows
abbrev pub Sayable : Shown → Type 0
Sayable (shows_heading body) = Unit {0}
Sayable (shows_variable body) = Unit {0}
Sayable (shows_sum body) = 2 ≤ length body
Sayable (shows_table a b rows place) = length rows ≤ 512
Sayable (shows_short_table body) = ⊥
Sayable (shows_add body) = Unit {0}
Sayable (shows_retract body) = Unit {0}
Sayable (shows_end body) = Unit {0}

-- The buffer was too short: the first records of the sheet stand in it, and all other bytes are as they were. Where there is one of them at least, the four
-- bytes of an end would fit after them; the record that is next does not fit with as much of what follows it as an end has bytes.
pub record CutShort (sheet before buffer : List ℕ) : Type 0 where
  pub short : length before < length sheet
  pub begun : Begun
  pub keeps : Keeps begun
  pub next : Raw
  pub after : List ℕ
  pub same : sheet ≡ bytes_begun begun ++ (framed next ++ after)
  pub fits : 1 ≤ length (bytes_begun begun) → length (bytes_begun begun) + 4 ≤ length before
  pub full : length before < length (bytes_begun begun) + (length (framed next) + min 4 (length after))
  pub there : buffer ≡ laid 0 (bytes_begun begun) before

-- the answer to putting all records of an accepted sheet: its length, and it stands in the buffer; or there is no room
abbrev pub Copied : List ℕ → List ℕ → List ℕ → Result ℕ WriteFault → Type 0
Copied sheet before buffer (Ok place) = (place ≡ length sheet) × (length sheet ≤ length before) × (buffer ≡ laid 0 sheet before)
Copied sheet before buffer (Err fault) = (fault ≡ ShortBuffer) × CutShort sheet before buffer

-- The answer to rewriting any bytes: a refused sheet's fault, and the buffer is as it was; else the answer to putting all its records.
abbrev pub Rewrites : List ℕ → List ℕ → List ℕ → Result ℕ RewriteFault → Type 0
Rewrites sheet before buffer (Ok place) = IsAccepted sheet × Copied sheet before buffer (Ok place)
Rewrites sheet before buffer (Err (Sheet fault)) = (verdict sheet ≡ Err fault) × (buffer ≡ before)
Rewrites sheet before buffer (Err (Write fault)) = IsAccepted sheet × Copied sheet before buffer (Err fault)

abbrev pub rewrite_number : RewriteFault → ℕ
rewrite_number (Sheet fault) = fault_number fault
rewrite_number (Write fault) = write_number fault
