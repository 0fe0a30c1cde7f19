use Rattle.std.proofs.Common.{◌+◌, sym, subst₂, arith}
use Rattle.std.proofs.lemmas.Bool.{both_ways, lt-ltb}
use Rattle.engine.specs.declared.fifo.Queue.{Queue}
use Rattle.domains.specs.declared.Domains.{Domains}
use Rattle.domains.specs.declared.Returning.{Returning}
use Rattle.engine.proofs.Frees.{Among, among_skip, among_free, names_yes, names_no}
use Rattle.engine.proofs.release.free_among.Goals as goal
use Rattle.engine.proofs.release.free_among.Goals.{then-has+then-names, then-has+else-names, else-has}

pub loop-x-preserved : goal.loop-x-preserved
loop-x-preserved c =
    let n = c.args.c.now in
    let d = c.args.d.now in
    let q = c.args.q.now in
    let i = c.args.variable in
    let p = c.args.constraint in
    let s = c.args.among in
    let x = c.loop-x.x in
    let P : Domains → Queue Returning → Type 0 = λ e r. Among n d e q r i p s (x + 1) in
    elim c.if-has.branch [
      | then-has+then-names w ↦
          subst₂ P (sym w.d-is) (sym w.q-is)
          (among_free n d c.loop-x.d w.free.new.d q c.loop-x.q w.free.new.q i p s x _
          w.free.ensures.put w.free.ensures.why w.free.ensures.more w.free.ensures.waiting w.free.ensures.len w.free.ensures.kept
          c.requires.low (omega (arith, c.requires.shape.small i)) (lt-ltb x _ c.loop-x-test.true) (sym w.if-has.ensures)
          (names_yes _ _ _ w.if-names.ensures).0 (names_yes _ _ _ w.if-names.ensures).1 w.free.ensures.clock c.loop-x.invariant)
      | then-has+else-names w ↦
          subst₂ P (sym w.d-is) (sym w.q-is)
          (among_skip n d c.loop-x.d q c.loop-x.q i p s x (λ _ e. names_no _ _ _ w.if-names.ensures e) c.loop-x.invariant)
      | else-has w ↦
          subst₂ P (sym w.d-is) (sym w.q-is)
          (among_skip n d c.loop-x.d q c.loop-x.q i p s x (λ h _. absurd (both_ways _ (sym w.if-has.ensures) h)) c.loop-x.invariant)
    ]
