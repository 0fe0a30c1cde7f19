-- What the tests of a writer say of a record before it is put.
use Rattle.std.specs.Prelude.{◌≡◌, ℕ, ◌+◌, true, Ok, Err, Result}
use Rattle.sheet_format.specs.declared.writing.WriteFault.{WriteFault}
use Rattle.sheet_format.specs.Reading.{Shown}
use Rattle.sheet_format.specs.Verdict.{step}
use Rattle.sheet_format.specs.Writing.{WriterState, lies_in, put}
use Rattle.sheet.specs.declared.progress.Next.{Next}
use Rattle.sheet.specs.Steps.{kept, next_step, Fits}

-- the writer is open, and there is room for the record, what it adds and what is kept after it
abbrev pub RecordFits : WriterState → ℕ → ℕ → Result (Next × ℕ) WriteFault → Type 0
RecordFits p size long (Ok found) =
    (p.is_open ≡ true) × (found.1 ≡ p.place + long) × (lies_in size (found.1 + kept found.0) ≡ true) × Fits p.tally found.0
RecordFits p size long (Err fault) = Unit {0}

-- what it adds is the check's step; or the refusal is that of the definition
abbrev pub Weighed : WriterState → ℕ → Shown → ℕ → Result (Next × ℕ) WriteFault → Type 0
Weighed p size s long (Ok found) = step p.tally s found.1 ≡ next_step p.tally found.1 found.0
Weighed p size s long (Err fault) = put p size s long ≡ Err fault
