use Rattle.std.proofs.Common.{◌<◌, ◌^◌, take, ◌∙◌, subst, rules}
use Rattle.std.proofs.ByRecursion.{All-from_get_or}
use Rattle.sheet_format.specs.Value.{table}
use Rattle.sheet_format.specs.Writing.{has_constraint, PutsEntry}
use Rattle.sheet_law.proofs.Growing.{grows}
use Rattle.sheet.specs.Sizes.{SizesLow}
use Rattle.sheet.proofs.Entries.{put_entry}
use Rattle.sheet.proofs.Limits.{few_rows}
use Rattle.sheet.proofs.writer.Writer.table.Goals as goal

pub returns : goal.returns
returns c =
    let p : PutsEntry c.args.self.now c.args.buffer.now (has_constraint (table c.args.left c.args.right c.args.rows.now)) c.put.new.self c.put.new.buffer c.put.result =
    few_rows c.args.self.now c.args.buffer.now c.args.left c.args.right c.min.result c.args.rows.now _ _ _ (subst (λ q. SizesLow q.tally.variables) c.self.view_is c.self.invariant.2) (search rules)
    (put_entry (has_constraint (table c.args.left c.args.right (take c.min.result c.args.rows.now))) _ c.args.self.now c.args.buffer.now _ _ _ (c.deref.ensures.0 ∙ c.table_body-body.ensures) c.put.ensures) in
    record { call = p; written = λ b w. grows b c.args.self.now c.args.buffer.now _ _ (has_constraint (table c.args.left c.args.right c.args.rows.now)) _ (search rules, search rules, All-from_get_or (λ row. row < 2 ^ 64) c.args.rows.now 0 (λ i _. (c.type_inv.rows i).fits)) w p }
