use Rattle.std.proofs.Common.{rules}
use Rattle.engine.proofs.Start.{past_kept}
use Rattle.engine.proofs.state.change.release_through.Goals as goal

pub returns-clause-past : goal.returns-clause-past
returns-clause-past c =
    past_kept c.new-q.result c.release.new.q c.args.returning.now _ 2048 c.new-q.ensures.over.filled c.release.ensures.kept c.new-q.ensures.limit c.requires.long (search rules)
