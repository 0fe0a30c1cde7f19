use Rattle.std.proofs.Common.{◌≡◌, ltb, length, sym, ◌∙◌, subst}
use Rattle.std.proofs.lemmas.Bool.{le-ltb, cond-false}
use Rattle.sheet_format.specs.Verdict.{Verdict, verdict}
use Rattle.sheet_format.specs.Law.{Law}
use Rattle.sheet_law.proofs.Laws.{law_at}
use Rattle.sheet.proofs.checking.check.Goals as goal

pub returns : goal.returns
returns c =
    let xs = c.args.sheet.now in
    let v : ◌≡◌ {A = Verdict} c.walk_through.result (verdict c.args.sheet.now) =
    c.walk_through.ensures ∙ sym (cond-false (ltb 65535 (length xs)) _ _ (le-ltb 65535 (length xs) c.if-sheet-gt65535.false)) in
    record { verdict = v; law = subst (Law xs) (sym v) (law_at xs (λ i. (c.type_inv.sheet i).fits)) }
