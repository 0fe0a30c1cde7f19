use Rattle.std.proofs.Common.{ℕ, ◌*◌, ◌≤◌, List, [], length, sym, ◌∙◌, subst, arith}
use Rattle.engine.specs.Waiting.{waits}
use Rattle.domains.specs.declared.Domains.{Domains}
use Rattle.domains.specs.declared.Returning.{Returning}
use Rattle.domains.specs.Model.{total}
use Rattle.domains.specs.Releasing.{Releasing}
use Rattle.domains.proofs.Entries.{total_few}
use Rattle.domains.proofs.Release.{releasing_start, released}
use Rattle.engine.proofs.Beside.{named_both, names_rest}
use Rattle.engine.proofs.Kept.{kept_trans}
use Rattle.engine.proofs.release.release.Goals as goal

pub loop-returning-smaller : goal.loop-returning-smaller
loop-returning-smaller c =
    let few : total c.free_beside.new.d.sets ≤ 64 * length c.free_beside.new.d.sets =
    total_few c.free_beside.new.d.sets c.free_beside.new.d.wide
    in
    omega (arith, few, c.free_beside.new.d.sets_long, c.free_beside.ensures.grew.even, c.free_beside.ensures.grew.more, c.in-Some.ensures.len)

pub loop-returning-preserved : goal.loop-returning-preserved
loop-returning-preserved c =
    let P : ℕ → Domains → List Returning → Type 0 = λ p d₀ w. Releasing c.args.c.now p d₀ c.loop-returning.d w in (
      c.free_beside.ensures.spare,
      c.free_beside.ensures.grew.clock ∙ c.loop-returning.invariant.1,
      λ i x h. c.free_beside.ensures.grew.shown i x (c.loop-returning.invariant.2 i x h),
      omega (arith, c.free_beside.ensures.grew.more, c.loop-returning.invariant.3),
      kept_trans c.free_among-2.new.q c.loop-returning.q c.free_beside.new.q c.loop-returning.invariant.4
          (kept_trans c.loop-returning.q c.pop.new.self c.free_beside.new.q c.in-Some.ensures.kept c.free_beside.ensures.grew.kept),
      λ p d₀ r. c.free_beside.ensures.follows p d₀ (subst (P p d₀) c.in-Some.ensures.waiting (c.loop-returning.invariant.5 p d₀ r)),
    )

pub returns : goal.returns
returns c =
    let n = c.args.c.now in
    let p = c.args.constraint in
    let all = c.below-all.result in
    let d = c.args.d.now in
    let d₁ = c.free_among.new.d in
    let d₂ = c.free_among-2.new.d in
    let d₃ = c.loop-returning.d in
    let S : List Returning → Type 0 = λ w. Releasing n p d d w in
    let E : List Returning → Type 0 = λ w. Releasing n p d d₃ w in
    let r₁ : Releasing n p d d₁ (waits c.free_among.new.q) =
    c.free_among.ensures.frees p d [] (names_rest n p _ all d) (subst S (sym c.requires.empty) (releasing_start n p d c.requires.sound))
    in
    let r₂ : Releasing n p d d₂ (waits c.free_among-2.new.q) = c.free_among-2.ensures.frees p d [] (names_rest n p _ all d) r₁ in
    let r₃ : Releasing n p d d₃ [] = subst E c.in_default.ensures.waiting.0 (c.loop-returning.invariant.5 p d r₂) in
    record {
      released =
          released n p d d₃ r₃
          (named_both n p all d d₁ d₂ d₃ c.requires.shape c.requires.sound c.free_among.ensures.grew.why c.free_among-2.ensures.grew.why
          c.free_among-2.ensures.grew.shown c.loop-returning.invariant.2 c.below-all.ensures c.free_among.ensures.freed c.free_among-2.ensures.freed);
      inside = c.loop-returning.invariant.0.inside;
      clock = c.loop-returning.invariant.1 ∙ c.free_among-2.ensures.grew.clock ∙ c.free_among.ensures.grew.clock;
      more = omega (arith, c.loop-returning.invariant.3, c.free_among.ensures.grew.more, c.free_among-2.ensures.grew.more);
      kept =
          kept_trans c.args.q.now c.free_among.new.q c.pop.new.self c.free_among.ensures.grew.kept
          (kept_trans c.free_among.new.q c.free_among-2.new.q c.pop.new.self c.free_among-2.ensures.grew.kept
          (kept_trans c.free_among-2.new.q c.loop-returning.q c.pop.new.self c.loop-returning.invariant.4 c.in_default.ensures.kept));
    }
