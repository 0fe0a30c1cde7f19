use Rattle.std.proofs.Common.{◌≡◌, subst, arith}
use Rattle.std.proofs.lemmas.Bool.{and_parts}
use Rattle.arcs.proofs.Shrink.{around_bound}
use Rattle.bits.specs.Bits.{domains_of}
use Rattle.scratch.specs.Rows.{arcs_of_rows}
use Rattle.scratch.specs.Settling.{Waits}
use Rattle.scratch.proofs.Sweeping.{swept_all, waits_at_first, waits_at_last}
use Rattle.scratch.proofs.settle.settle.Goals as goal

pub loop-stale-init : goal.loop-stale-init
loop-stale-init c =
    (around_bound _ _, waits_at_first (arcs_of_rows c.args.arcs.now) (domains_of c.args.domains.now) (λ i k on. omega (arith, (c.requires.placed k (and_parts _ _ on).0).1)))

pub loop-stale-preserved : goal.loop-stale-preserved
loop-stale-preserved c = (
  c.pass-stale.ensures.around (domains_of c.args.domains.now) c.loop-stale.invariant.0,
  swept_all c.args.arcs.now c.loop-stale.stale c.loop-stale.domains c.pass-stale.new.domains c.pass-stale.result
      c.pass-stale.ensures c.loop-stale.invariant.1,
)

pub returns : goal.returns
returns c =
    let z : c.loop-stale.stale ≡ 0 = omega arith in
    waits_at_last (arcs_of_rows c.args.arcs.now) (domains_of c.args.domains.now) (domains_of c.loop-stale.domains) c.loop-stale.invariant.0
    (subst (λ s. Waits (arcs_of_rows c.args.arcs.now) s (domains_of c.loop-stale.domains)) z c.loop-stale.invariant.1)
