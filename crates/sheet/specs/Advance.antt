-- What reading one record more says of the verdict.
use Rattle.std.specs.Prelude.{◌≡◌, ℕ, ◌+◌, ◌≤◌, List, length, Ok, Err, Result}
use Rattle.std.specs.declared.ops.ControlFlow.{ControlFlow}
use Rattle.std.specs.declared.ops.ControlFlow.TheVariants.{Continue, Break}
use Rattle.sheet_format.specs.declared.found.Summary.{Summary}
use Rattle.sheet_format.specs.declared.faults.SheetFault.{SheetFault}
use Rattle.sheet_format.specs.Reading.{reading}
use Rattle.sheet_format.specs.Verdict.{Tally, Verdict, after_reading}
use Rattle.sheet.specs.declared.checking.Walk.{Walk}

-- what goes on from some bytes, which begin at a place, with so many records before them, and a tally
abbrev pub Onward : Type 0
Onward = List ℕ → ℕ → ℕ → Tally → Verdict

-- the verdict of a walk, for whatever goes on after its next record
abbrev pub after_record : Onward → Walk → Verdict
after_record go w = after_reading go w.progress w.place w.records (length w.input.now) (reading w.input.now w.place)

-- the next walk has one record behind it that this one has not, and the same bytes in all
pub record OneFurther (w next : Walk) : Type 0 where
  pub goes_on : (go : Onward) → after_record go w ≡ go next.input.now next.place (w.records + 1) next.progress
  pub counted : next.records ≡ w.records + 1
  pub same_end : next.place + length next.input.now ≡ w.place + length w.input.now
  pub further : length next.input.now + 4 ≤ length w.input.now

-- what the answer says of that verdict, and of the walk after it
abbrev pub Advanced : Walk → Result (ControlFlow Summary Unit) SheetFault → Walk → Type 0
Advanced w (Ok (Continue x)) next = OneFurther w next
Advanced w (Ok (Break summary)) next = (go : Onward) → after_record go w ≡ Ok summary
Advanced w (Err fault) next = (go : Onward) → after_record go w ≡ Err fault
