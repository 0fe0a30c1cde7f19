use Rattle.std.proofs.Common.{map, take, ap, ◌∙◌}
use Rattle.std.proofs.lemmas.Result.{IfOk-weaker}
use Rattle.sheet.proofs.Encoded.{encoded}
use Rattle.sheet.specs.Moves.{move_of, move_by_kind}
use Rattle.sheet.proofs.Places.{moves_read, records_there}
use Rattle.sheet.proofs.moves.moves_of.Goals as goal

pub slice_bounds-moves_in-end : goal.slice_bounds-moves_in-end
slice_bounds-moves_in-end c = let s = c.args.sheet.now in records_there s.bytes.now s.found (encoded s) c.as_chunks.result.0.now c.as_chunks.ensures.front_len

pub returns : goal.returns
returns c =
    let s = c.args.sheet.now in
    IfOk-weaker c.moves_in.result _ _
    (λ v e. ap (map move_of) e
    ∙ ap (λ records. map move_of (map move_by_kind (take s.found.moves records))) c.as_chunks.ensures.front
    ∙ moves_read s.bytes.now s.found (encoded s))
    c.moves_in.ensures
