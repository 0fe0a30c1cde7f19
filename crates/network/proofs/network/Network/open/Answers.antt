use Rattle.std.proofs.Common.{Some, sym, refl, ap, ◌∙◌}
use Rattle.std.proofs.lemmas.Result.{err_from_is_err_and}
use Rattle.network.specs.Calls.{opens}
use Rattle.network.specs.Model.{moment_of}
use Rattle.network.proofs.Asking.{refused}
use Rattle.network.proofs.Opening.{links_open, step_open}
use Rattle.network.proofs.network.Network.open.Goals as goal

pub returns-in_err-check_sizes : goal.returns-in_err-check_sizes
returns-in_err-check_sizes g c =
    let p = err_from_is_err_and c.from_residual.result c.from_residual.ensures.1 in
    let n = c.args.self.now in
    rw p.1
    (record {
      catalog = refl;
      performs = λ linked.
          refused (g.C.Catalog.meaning n.catalog) (g.C.Catalog.lawful n.catalog) n.state linked (opens c.args.sizes.now c.args.time) p.0
          (sym (ap Some p.2 ∙ c.in_err-check_sizes.ensures));
      stands = tt;
      refused = ap Some p.2 ∙ c.in_err-check_sizes.ensures;
      unchanged = refl;
    })

pub returns : goal.returns
returns g c =
    let n = c.args.self.now in
    let m = g.C.Catalog.meaning n.catalog in
    let lawful = g.C.Catalog.lawful n.catalog in
    let e = c.open.new.self in
    let linked =
    links_open m lawful n.state.engine.constraints e.constraints e.domains c.args.sizes.now c.narrow.result c.args.time (sym c.in_ok-check_sizes.ensures) c.narrow.ensures e.constraints.sizes_long c.open.ensures _ refl
    in
    record {
      catalog = refl;
      stands = linked;
      performs = λ _.
          record {
            linked = linked;
            step = step_open m lawful n.state.engine.constraints e.constraints e.domains c.args.sizes.now c.narrow.result c.args.time
                (sym c.in_ok-check_sizes.ensures) c.narrow.ensures e.constraints.sizes_long c.open.ensures (moment_of n.state);
          };
      refused = c.in_ok-check_sizes.ensures;
      unchanged = tt;
    }
