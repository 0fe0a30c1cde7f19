use Rattle.std.proofs.Common.{Some, ap, ◌∙◌}
use Rattle.std.proofs.lemmas.Result.{err_from_is_err_and}
use Rattle.network.proofs.Asking.{why_no, why_yes}
use Rattle.network.proofs.network.Network.justification.Goals as goal

pub returns-in_err-check_value : goal.returns-in_err-check_value
returns-in_err-check_value g c =
    let p = err_from_is_err_and c.from_residual.result c.from_residual.ensures.1 in
    let n = c.args.self.now in
    rw p.1
    (λ linked. why_no (g.C.Catalog.meaning n.catalog) (g.C.Catalog.lawful n.catalog) n.state linked c.args.variable c.args.value p.0 (ap Some p.2 ∙ c.in_err-check_value.ensures))

pub returns : goal.returns
returns g c =
    λ linked.
    let n = c.args.self.now in
    why_yes (g.C.Catalog.meaning n.catalog) (g.C.Catalog.lawful n.catalog) n.state linked c.args.variable c.args.value c.justification.result
    c.in_ok-check_value.ensures c.justification.ensures
