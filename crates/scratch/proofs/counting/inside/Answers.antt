use Rattle.std.proofs.Common.{vec_items, ap, ◌∙◌}
use Rattle.scratch.specs.Named.{named}
use Rattle.scratch.proofs.Counted.{inside_yes, inside_no}
use Rattle.scratch.proofs.counting.inside.Goals as goal
use Rattle.scratch.proofs.counting.inside.Goals.{then-lies_inside+in_ok-push, else-lies_inside}

pub loop-p-preserved : goal.loop-p-preserved
loop-p-preserved g c =
    let m = g.C.Catalog.meaning c.args.catalog.now in
    elim c.if-lies_inside.branch [
      | then-lies_inside+in_ok-push w ↦ λ q.
          ap (λ v. named (vec_items v) q) w.indices-is
          ∙ ap (λ xs. named xs q) w.in_ok-push.ensures.items
          ∙ inside_yes m c.args.n c.loop-p.p (vec_items c.loop-p.indices) w.if-lies_inside.ensures c.loop-p.invariant q
      | else-lies_inside w ↦ λ q.
          ap (λ v. named (vec_items v) q) w.indices-is
          ∙ inside_no m c.args.n c.loop-p.p (vec_items c.loop-p.indices) w.if-lies_inside.ensures c.loop-p.invariant q
    ]
