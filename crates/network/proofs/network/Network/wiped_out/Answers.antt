use Rattle.network.proofs.Asking.{wiped_yes}
use Rattle.network.proofs.network.Network.wiped_out.Goals as goal

pub returns : goal.returns
returns g c =
    λ linked.
    let n = c.args.self.now in
    wiped_yes (g.C.Catalog.meaning n.catalog) (g.C.Catalog.lawful n.catalog) n.state linked c.lowest_empty.result c.lowest_empty.ensures
