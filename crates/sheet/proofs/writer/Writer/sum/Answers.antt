use Rattle.std.proofs.Common.{rules}
use Rattle.sheet_format.specs.Value.{sum}
use Rattle.sheet_format.specs.Writing.{has_constraint, PutsEntry}
use Rattle.sheet_law.proofs.Growing.{grows}
use Rattle.sheet.proofs.Entries.{put_entry}
use Rattle.sheet.proofs.writer.Writer.sum.Goals as goal

pub returns : goal.returns
returns c =
    let p : PutsEntry c.args.self.now c.args.buffer.now (has_constraint (sum c.args.left c.args.right c.args.formula.m c.args.formula.k c.args.formula.lo c.args.formula.hi)) c.put.new.self c.put.new.buffer c.put.result =
    put_entry (has_constraint (sum c.args.left c.args.right c.args.formula.m c.args.formula.k c.args.formula.lo c.args.formula.hi)) _ c.args.self.now c.args.buffer.now _ _ _ c.sum_body.ensures c.put.ensures in
    record { call = p; written = λ b w. grows b c.args.self.now c.args.buffer.now _ _ (has_constraint (sum c.args.left c.args.right c.args.formula.m c.args.formula.k c.args.formula.lo c.args.formula.hi)) _ (search rules) w p }
