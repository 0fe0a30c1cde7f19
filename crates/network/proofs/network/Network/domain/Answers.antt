use Rattle.network.proofs.Asking.{domain_no, domain_yes}
use Rattle.network.proofs.network.Network.domain.Goals as goal

pub returns-then-not-has_variable : goal.returns-then-not-has_variable
returns-then-not-has_variable g c =
    λ linked.
    let n = c.args.self.now in
    domain_no (g.C.Catalog.meaning n.catalog) (g.C.Catalog.lawful n.catalog) n.state linked c.args.variable c.if-not-has_variable.ensures

pub returns : goal.returns
returns g c =
    λ linked.
    let n = c.args.self.now in
    domain_yes (g.C.Catalog.meaning n.catalog) (g.C.Catalog.lawful n.catalog) n.state linked c.args.variable c.domain.result c.if-not-has_variable.ensures c.domain.ensures
