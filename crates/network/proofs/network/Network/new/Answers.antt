use Rattle.std.proofs.Common.{ℕ, List, Bool, sym, refl, subst}
use Rattle.engine.proofs.Called.{right_now, stood}
use Rattle.network.specs.Moment.{Blank}
use Rattle.network.specs.Model.{Links, moment}
use Rattle.network.proofs.Opening.{links_new, blank_new}
use Rattle.network.proofs.Steps.{right_here}
use Rattle.network.proofs.network.Network.new.Goals as goal

pub returns : goal.returns
returns g c =
    let m = g.C.Catalog.meaning c.args.catalog in
    let made = c.nothing in
    let state = made.result in
    let k = state.engine.constraints in
    let d = state.engine.domains in
    let linked =
    subst (λ n. Links m k n state.known) (sym made.ensures.variables) (links_new m k state.known made.ensures.constraints made.ensures.known)
    in
    record {
      catalog = refl;
      linked = linked;
      blank = subst (λ n. Blank (moment k d n)) (sym made.ensures.variables) (blank_new k d made.ensures.constraints made.ensures.domains);
      right = right_here m (g.C.Catalog.lawful c.args.catalog) k d state.variables state.known linked (right_now k d (stood state.engine));
    }
