use Rattle.std.proofs.Common.{[], ◌∷◌, ◌++◌, ◌+◌, ap, sym, ◌∙◌}
use Rattle.sheet_format.specs.Decoding.{rows_in}
use Rattle.sheet.proofs.Chunks.{rows_more}
use Rattle.sheet.proofs.copying.rows_of.Goals as goal

pub loop-k-preserved : goal.loop-k-preserved
loop-k-preserved c =
    let inv = c.loop-k.invariant in
    (c.push.ensures.items ∙ ap (λ rows. rows ++ c.row.result ∷ []) inv.0 ∙ ap (λ r. rows_in c.loop-k.k c.args.bytes.now ++ r ∷ []) c.row.ensures ∙ sym (rows_more c.loop-k.k c.args.bytes.now), c.push.ensures.len ∙ ap (λ n. n + 1) inv.1)
