-- A sheet that ran, and what is printed of it.
use Rattle.std.proofs.Common.{◌≡◌, ℕ, true, List, Ok, Err, is_ok, sym, ap}
use Rattle.std.proofs.lemmas.Bool.{true≢false}
use Rattle.sheet.specs.declared.accepted.Accepted.{Accepted}
use Rattle.sheet_format.specs.Verdict.{Verdict, verdict}
use Rattle.runner.specs.declared.reports.Report.{Report}
use Rattle.runner.specs.Lines.{report_text}
use Rattle.runner.specs.Listing.{Listed}
use Rattle.runner.specs.Ran.{SheetRan}

pub accepted_ok : (s : Accepted) → is_ok (verdict s.bytes.now) ≡ true
accepted_ok s = ap is_ok (sym s.accepted)

pub listed_ok : (v : Verdict) (bytes text : List ℕ) (report : Report) → is_ok v ≡ true → SheetRan bytes report → text ≡ report_text report → Listed v bytes text
listed_ok (Ok found) bytes text report e ran t = (report, ran, t)
listed_ok (Err fault) bytes text report e ran t = absurd (true≢false (sym e))
