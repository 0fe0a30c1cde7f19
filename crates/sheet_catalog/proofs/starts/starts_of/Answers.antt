use Rattle.std.proofs.Common.{ℕ, ◌+◌, ◌<◌, drop, sym, ap, ◌∙◌, arith, length-set}
use Rattle.std.proofs.lemmas.List.{length-take-le}
use Rattle.sheet_catalog.proofs.Through.{few_at, first_at, onward_at, begun_at, begun_front}
use Rattle.sheet_catalog.proofs.starts.starts_of.Goals as goal

pub slice_bounds-starts-end : goal.slice_bounds-starts-end
slice_bounds-starts-end c = few_at c.args.sheet.now

pub slice_bounds-start-items-end : goal.slice_bounds-start-items-end
slice_bounds-start-items-end c = sym (length-take-le _ _ (few_at c.args.sheet.now))

pub loop-start-init : goal.loop-start-init
loop-start-init c = (length-take-le _ _ (few_at c.args.sheet.now), first_at c.args.sheet.now, λ k h. absurd (omega arith))

pub loop-start-preserved : goal.loop-start-preserved
loop-start-preserved c =
    let s = c.args.sheet.now in
    let p : ℕ = c.loop-start.start-index in
    let here : c.loop-start.start-index < c.args.sheet.now.found.constraints = omega arith in (
      length-set c.loop-start.start-items p c.loop-start.place ∙ c.loop-start.invariant.0,
      ap (λ n. drop (c.loop-start.place + n) s.bytes.now) c.word.ensures ∙ onward_at s p c.loop-start.place here c.loop-start.invariant.1,
      begun_at s c.loop-start.start-items p c.loop-start.place (omega arith) here c.loop-start.invariant.1 c.loop-start.invariant.2,
    )

pub returns-clause-begun : goal.returns-clause-begun
returns-clause-begun c = λ p h. begun_front c.args.sheet.now c.loop-start.start-items _ p (omega arith) (c.loop-start.invariant.2 p (omega arith))
