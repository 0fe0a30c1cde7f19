-- What is printed of any bytes.
use Rattle.std.specs.Prelude.{◌≡◌, ℕ, List, Ok, Err}
use Rattle.sheet_format.specs.Lines.{fault_line}
use Rattle.sheet_format.specs.Verdict.{Verdict, verdict}
use Rattle.runner.specs.declared.reports.Report.{Report}
use Rattle.runner.specs.Lines.{ended, report_text}
use Rattle.runner.specs.Ran.{SheetRan}

-- of a refused sheet, its fault's line; of an accepted one, the lines of its run
abbrev pub Listed : Verdict → List ℕ → List ℕ → Type 0
Listed (Err fault) bytes text = text ≡ ended (fault_line fault)
Listed (Ok found) bytes text = (report : Report) × SheetRan bytes report × (text ≡ report_text report)

abbrev pub Listing : List ℕ → List ℕ → Type 0
Listing bytes text = Listed (verdict bytes) bytes text
