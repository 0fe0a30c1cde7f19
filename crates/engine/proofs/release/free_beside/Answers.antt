use Rattle.std.proofs.Common.{◌+◌, sym, subst₂}
use Rattle.engine.specs.declared.fifo.Queue.{Queue}
use Rattle.domains.specs.declared.Domains.{Domains}
use Rattle.domains.specs.declared.Returning.{Returning}
use Rattle.engine.proofs.Beside.{Beside, beside_skip, beside_more, beside_all}
use Rattle.engine.proofs.release.free_beside.Goals as goal
use Rattle.engine.proofs.release.free_beside.Goals.{in-Some, in_default}

pub loop-p-preserved : goal.loop-p-preserved
loop-p-preserved c =
    let n = c.args.c.now in
    let d = c.args.d.now in
    let q = c.args.q.now in
    let v = c.args.returning in
    let p = c.loop-p.p in
    let P : Domains → Queue Returning → Type 0 = λ e r. Beside n d e q r v (p + 1) in
    elim c.match-arc_at.branch [
      | in-Some w ↦
          subst₂ P (sym w.d-is) (sym w.q-is)
          (beside_more n d c.loop-p.d w.free_among.new.d q c.loop-p.q w.free_among.new.q v p w.in-Some.arc c.requires.shape
          w.in-Some.ensures.0 w.in-Some.ensures.1 w.in-Some.ensures.2 c.requires.value w.beside-among.result w.beside-among.ensures
          w.free_among.ensures.spare w.free_among.ensures.grew w.free_among.ensures.frees w.free_among.ensures.freed c.loop-p.invariant)
      | in_default w ↦
          subst₂ P (sym w.d-is) (sym w.q-is)
          (beside_skip n d c.loop-p.d q c.loop-p.q v p c.requires.shape w.in_default.ensures c.loop-p.invariant)
    ]

pub returns : goal.returns
returns c =
    record {
      spare = c.loop-p.invariant.spare;
      grew = c.loop-p.invariant.grew;
      follows = beside_all c.args.c.now c.args.d.now c.loop-p.d c.args.q.now c.loop-p.q c.args.returning c.loop-p.p c.loop-p-test.false c.loop-p.invariant;
    }
