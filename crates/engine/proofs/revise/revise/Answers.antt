use Rattle.std.proofs.Common.{◌≡◌, ◌+◌, ◌<◌, true, bit_and, get_or, subst, sym, arith}
use Rattle.domains.specs.declared.Domains.{Domains}
use Rattle.domains.specs.Model.{row, shown}
use Rattle.domains.specs.Sound.{Revising}
use Rattle.domains.proofs.Revise.{total_positive, support_yes, support_no, revising_keep, revising_out}
use Rattle.engine.proofs.Frees.{bare_no, bare_yes}
use Rattle.engine.proofs.Still.{revising_none}
use Rattle.engine.proofs.revise.revise.Goals as goal
use Rattle.engine.proofs.revise.revise.Goals.{then-is_bare, else-is_bare}

pub loop-x-init : goal.loop-x-init
loop-x-init c = revising_none c.args.c.now c.args.d.now c.args.arc c.requires.sound

pub put_out-requires : goal.put_out-requires
put_out-requires c =
    let low : c.loop-x.x < 64 = omega (arith, c.loop-x-test.true, c.args.c.now.each_row_long c.args.arc.rows c.requires.facing.rows_low) in
    let was : shown c.loop-x.d c.args.arc.near c.loop-x.x ≡ true = (bare_yes _ _ c.if-is_bare.ensures).0 in
    let some = total_positive c.loop-x.d c.args.arc.near c.loop-x.x c.requires.facing.near_low low was in
    record {
      time = omega (arith, some, c.loop-x.invariant.went.spent, c.requires.time);
      was = was;
    }

pub loop-x-preserved : goal.loop-x-preserved
loop-x-preserved c =
    let n = c.args.c.now in
    let d = c.args.d.now in
    let a = c.args.arc in
    let x = c.loop-x.x in
    let low : c.loop-x.x < 64 = omega (arith, c.loop-x-test.true, n.each_row_long a.rows c.requires.facing.rows_low) in
    let P : Domains → Type 0 = λ e. Revising n d e a (x + 1) in
    elim c.if-is_bare.branch [
      | then-is_bare w ↦
          subst P (sym w.d-is)
          (revising_out n d c.loop-x.d w.put_out.new.d a x c.requires.facing c.loop-x.invariant w.put_out.ensures.put
          (support_no n d a c.requires.facing x low (bare_yes _ _ w.if-is_bare.ensures).1)
          w.put_out.ensures.clock w.put_out.ensures.fewer w.put_out.ensures.others)
      | else-is_bare w ↦
          subst P (sym w.d-is)
          (revising_keep n d c.loop-x.d a x
          (λ h. support_yes n d a c.requires.facing x low
          (let none : bit_and (get_or d.sets a.far 0) (row n a.rows x) ≡ 0 → ⊥ = bare_no _ _ w.if-is_bare.ensures h in omega (arith, none)))
          c.loop-x.invariant)
    ]

pub returns-clause-revised : goal.returns-clause-revised
returns-clause-revised c =
    let all : c.loop-x.x ≡ 64 = omega arith in
    subst (λ x. Revising c.args.c.now c.args.d.now c.loop-x.d c.args.arc x) all c.loop-x.invariant
