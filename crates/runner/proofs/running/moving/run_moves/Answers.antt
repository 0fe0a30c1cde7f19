use Rattle.sheet_catalog.specs.Sizes.{listed}
use Rattle.runner.proofs.Leading.{ran}
use Rattle.runner.proofs.running.moving.run_moves.Goals as goal

pub returns : goal.returns
returns g c =
    ran g.C.Catalog.meaning c.args.catalog c.new-run.result c.open.new.self c.make_all.new.self c.domains.new.self (listed c.args.sizes.now) c.as_slice.result.now c.deref.result.now c.deref-2.result.now
    (record { moves = c.args.moves; outcomes = c.in_ok-outcomes.outcomes; refused = c.refusals-refused.result; domains = c.in_ok-domains.domains })
    c.new-run.ensures.catalog c.new-run.ensures.blank c.new-run.ensures.right c.open.ensures.led
    c.deref.ensures.value c.in_ok-outcomes.ensures c.deref-2.ensures.value c.refusals-refused.ensures c.as_slice.ensures.listed c.in_ok-domains.ensures
