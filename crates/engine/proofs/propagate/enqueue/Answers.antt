use Rattle.std.proofs.Common.{refl}
use Rattle.std.specs.Result.{is_ok}
use Rattle.engine.proofs.Marks.{queued_push}
use Rattle.engine.proofs.propagate.enqueue.Goals as goal

pub returns-then-not-marks-constraint : goal.returns-then-not-marks-constraint
returns-then-not-marks-constraint c =
    record {
      queued = queued_push c.args.q.now c.push.new.self c.args.marks.now c.args.constraint (is_ok c.push.result) c.requires.low c.requires.queued
          c.if-not-marks-constraint.true c.push.ensures.fits c.push.ensures.waiting c.push.ensures.len c.push.ensures.kept;
      kept = c.push.ensures.kept;
      marks = refl;
    }
