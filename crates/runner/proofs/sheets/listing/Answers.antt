use Rattle.std.proofs.Common.{string_bytes}
use Rattle.std.proofs.lemmas.Result.{IfOk-weaker}
use Rattle.sheet_format.specs.Verdict.{verdict}
use Rattle.runner.proofs.Printing.{listed_ok}
use Rattle.runner.proofs.sheets.listing.Goals as goal

pub returns-in-Ok : goal.returns-in-Ok
returns-in-Ok c =
    let ran = c.in-Ok.ensures in
    IfOk-weaker c.report_text.result _ _ (λ text e. listed_ok (verdict c.args.bytes.now) c.args.bytes.now (string_bytes text) c.in-Ok.report ran.accepted ran e) c.report_text.ensures
