use Rattle.std.proofs.Common.{suc, ◌+◌, ◌-◌, length, Err, sym, ap, ◌∙◌, arith}
use Rattle.std.proofs.lemmas.Result.{err_from_is_err_and}
use Rattle.sheet_format.specs.Verdict.{walked}
use Rattle.sheet.proofs.Answered.{walk_more}
use Rattle.sheet.proofs.checking.walk_through.Goals as goal

pub returns-in_err-summary : goal.returns-in_err-summary
returns-in_err-summary c =
    let w = c.loop-summary.walk in
    let p = err_from_is_err_and c.from_residual.result c.from_residual.ensures.1 in
    p.1
    ∙ ap Err p.2
    ∙ sym (c.in_err-summary.ensures (walked (suc (length c.args.sheet.now) - (w.records + 1))))
    ∙ walk_more c.args.sheet.now w.input.now w.place w.records w.progress _ (omega arith) c.loop-summary.invariant.0

pub returns-in-Break : goal.returns-in-Break
returns-in-Break c =
    let w = c.loop-summary.walk in
    let a = rw c.in-Break.is at c.in_ok-summary.ensures in
    sym (a (walked (suc (length c.args.sheet.now) - (w.records + 1))))
    ∙ walk_more c.args.sheet.now w.input.now w.place w.records w.progress _ (omega arith) c.loop-summary.invariant.0

pub loop-summary-preserved : goal.loop-summary-preserved
loop-summary-preserved c =
    let w = c.loop-summary.walk in
    let next = c.advance.new.self in
    let a = rw c.in-Continue.is at c.in_ok-summary.ensures in (
      ap (λ n. walked (suc (length c.args.sheet.now) - n) next.input.now next.place n next.progress) a.counted
          ∙ sym (a.goes_on (walked (suc (length c.args.sheet.now) - (w.records + 1))))
          ∙ walk_more c.args.sheet.now w.input.now w.place w.records w.progress _ (omega arith) c.loop-summary.invariant.0,
      omega (arith, a.same_end),
      next.counted,
      next.few,
    )
