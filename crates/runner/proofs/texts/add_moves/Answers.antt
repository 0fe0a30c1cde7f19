use Rattle.std.proofs.Common.{length, string_bytes, ◌∙◌}
use Rattle.std.proofs.lemmas.Slice.Zip.{zip_end}
use Rattle.runner.proofs.Printed.{no_moves_left}
use Rattle.runner.proofs.texts.add_moves.Goals as goal

pub returns : goal.returns
returns c =
    no_moves_left (string_bytes c.loop-m.text) c.args.moves.now c.args.outcomes.now (length c.loop-m.yielded)
    (zip_end c.args.moves.now c.args.outcomes.now c.loop-m.yielded c.into_iter-m-iterator.result c.loop-m.m-iterator c.next.new.self c.next.result (cc) (cc) c.loop-m.yielded_by c.in-None.is c.next.ensures.steps)
    ∙ c.loop-m.invariant
