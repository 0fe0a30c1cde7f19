use Rattle.std.proofs.Common.{◌≡◌, ℕ, sym, ◌∙◌, subst, arith}
use Rattle.domains.specs.Sound.{Supported}
use Rattle.domains.proofs.Revise.{went_trans}
use Rattle.domains.proofs.Settle.{settled_all, visited}
use Rattle.engine.proofs.Kept.{kept_trans}
use Rattle.engine.proofs.Still.{went_same}
use Rattle.engine.proofs.propagate.visit.Goals as goal

pub returns : goal.returns
returns c =
    let n = c.args.c.now in
    let a = c.in-Some.there in
    let b = c.in-Some-arc_at.back in
    let d = c.args.d.now in
    let d' = c.settle.new.d in
    let d'' = c.settle-2.new.d in
    let same : b.constraint ≡ a.constraint = c.in-Some-arc_at.ensures.2 ∙ sym c.in-Some.ensures.2 in
    let ra = c.settle.ensures.revised in
    let rb = c.settle-2.ensures.revised in
    let P : ℕ → Type 0 = λ p. Supported n d'' p in
    record {
      sound = rb.sound;
      went = went_trans n d d' d'' ra.went rb.went;
      queued = c.settle-2.ensures.queued;
      kept = kept_trans c.args.q.now c.settle.new.q c.settle-2.new.q c.settle.ensures.kept c.settle-2.ensures.kept;
      settled =
          settled_all n d'' c.settle-2.new.marks b.constraint
          (subst P (sym same) (visited n d d' d'' a b c.in-Some.ensures.0 c.in-Some-arc_at.ensures.0 c.in-Some-arc_at.ensures.1 same ra rb))
          c.settle-2.ensures.settled;
      idle = λ e.
          let e' : d'.clock ≡ d.clock = omega (arith, e, ra.went.later, rb.went.later) in
          let e'' : d''.clock ≡ d'.clock = omega (arith, e, ra.went.later, rb.went.later) in
          c.settle-2.ensures.idle e'' ∙ c.settle.ensures.idle e';
    }

pub returns-in_default-clause-went : goal.returns-in_default-clause-went
returns-in_default-clause-went c = went_same c.args.c.now c.args.d.now

pub returns-in_default-arc_at-clause-went : goal.returns-in_default-arc_at-clause-went
returns-in_default-arc_at-clause-went c = went_same c.args.c.now c.args.d.now
