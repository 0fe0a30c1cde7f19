use Rattle.std.proofs.Common.{Some, ap, ◌∙◌}
use Rattle.std.proofs.lemmas.Result.{err_from_is_err_and}
use Rattle.network.proofs.Asking.{shown_no, shown_yes}
use Rattle.network.proofs.network.Network.is_shown.Goals as goal

pub returns-in_err-check_value : goal.returns-in_err-check_value
returns-in_err-check_value g c =
    let p = err_from_is_err_and c.from_residual.result c.from_residual.ensures.1 in
    let n = c.args.self.now in
    rw p.1
    (λ linked. shown_no (g.C.Catalog.meaning n.catalog) (g.C.Catalog.lawful n.catalog) n.state linked c.args.variable c.args.value p.0 (ap Some p.2 ∙ c.in_err-check_value.ensures))

pub returns : goal.returns
returns g c =
    λ linked.
    let n = c.args.self.now in
    shown_yes (g.C.Catalog.meaning n.catalog) (g.C.Catalog.lawful n.catalog) n.state linked c.args.variable c.args.value c.shows.result c.in_ok-check_value.ensures
    c.shows.ensures
