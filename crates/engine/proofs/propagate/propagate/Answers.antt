use Rattle.std.proofs.Common.{arith}
use Rattle.domains.proofs.Settle.{settled_unmark}
use Rattle.engine.proofs.Marks.{first_low, queued_pop}
use Rattle.engine.proofs.propagate.propagate.Goals as goal

pub bounds-marks-p : goal.bounds-marks-p
bounds-marks-p c =
    first_low c.loop-p.q c.pop.new.self c.loop-p.marks c.in-Some.p c.loop-p.invariant.2 c.in-Some.ensures.waiting

pub visit-requires : goal.visit-requires
visit-requires c =
    let q = c.loop-p.q in
    let q' = c.pop.new.self in
    let m = c.loop-p.marks in
    let p = c.in-Some.p in
    record {
      low = first_low q q' m p c.loop-p.invariant.2 c.in-Some.ensures.waiting;
      shape = c.requires.shape;
      sound = c.loop-p.invariant.0;
      time = omega (arith, c.loop-p.invariant.1.spent, c.requires.time);
      queued = queued_pop q q' m p c.loop-p.invariant.2 c.in-Some.ensures.waiting c.in-Some.ensures.len c.in-Some.ensures.kept;
      settled = settled_unmark c.args.c.now c.loop-p.d m p c.loop-p.invariant.4;
    }
