use Rattle.std.proofs.Common.{slice_index, sym, subst}
use Rattle.sheet_format.specs.Value.{sum}
use Rattle.sheet_format.specs.Writing.{has_constraint, PutsEntry}
use Rattle.sheet.specs.Outcome.{shown_by}
use Rattle.sheet.specs.Copying.{entry_in}
use Rattle.sheet.proofs.copying.put_record.Goals as goal

pub returns-in-Sum : goal.returns-in-Sum
returns-in-Sum c =
    let body = c.in-Sum.body.now in
    subst (λ r. PutsEntry c.args.writer.now c.args.buffer.now (entry_in (shown_by r)) c.sum.new.self c.sum.new.buffer c.sum.result) (sym c.in-Sum.is)
    (subst (λ f. PutsEntry c.args.writer.now c.args.buffer.now (has_constraint (sum (slice_index body 0) (slice_index body 1) f.m f.k f.lo f.hi)) c.sum.new.self c.sum.new.buffer c.sum.result) c.of_body.ensures c.sum.ensures.call)
