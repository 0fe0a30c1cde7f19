use Rattle.std.proofs.Common.{sym, subst}
use Rattle.sheet_format.specs.Verdict.{step}
use Rattle.sheet.specs.Outcome.{shown_by}
use Rattle.sheet.specs.Steps.{Judged}
use Rattle.sheet.proofs.progress.Progress.judge.Goals as goal

pub returns-in-End : goal.returns-in-End
returns-in-End c = subst (λ t. Judged c.args.self.now (step c.args.self.now (shown_by t)) c.ending.result) (sym c.in-End.is) c.ending.ensures

pub returns-in-Add : goal.returns-in-Add
returns-in-Add c = subst (λ t. Judged c.args.self.now (step c.args.self.now (shown_by t)) c.a_move.result) (sym c.in-Add.is) c.a_move.ensures

pub returns-in-Retract : goal.returns-in-Retract
returns-in-Retract c = subst (λ t. Judged c.args.self.now (step c.args.self.now (shown_by t)) c.a_move-in-Retract.result) (sym c.in-Retract.is) c.a_move-in-Retract.ensures
