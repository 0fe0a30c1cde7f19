use Rattle.std.proofs.Common.{OnErr, Err, Some, refl, ap, ◌∙◌}
use Rattle.std.proofs.lemmas.Result.{err_from_is_err_and, MatchResult-weaker}
use Rattle.std.proofs.lemmas.Bool.{both_ways}
use Rattle.network.specs.Model.{Linked}
use Rattle.network.specs.Performs.{buffers}
use Rattle.network.proofs.Changing.{add_refused, add_took, may_add}
use Rattle.network.proofs.Lending.{took_lent}
use Rattle.network.proofs.network.Network.add.Goals as goal

pub returns-in_err-left : goal.returns-in_err-left
returns-in_err-left g c =
    let p = err_from_is_err_and c.from_residual.result c.from_residual.ensures.1 in
    let n = c.args.self.now in
    rw p.1
    (record {
      catalog = refl;
      performs = λ linked.
          took_lent (g.C.Catalog.meaning n.catalog) n.state n.state (buffers c.args.waiting.now c.args.returning.now) (buffers c.args.waiting.now c.args.returning.now) _ (Err p.0)
          (add_refused (g.C.Catalog.meaning n.catalog) (g.C.Catalog.lawful n.catalog) n.state c.args.constraint c.args.waiting.now c.args.returning.now linked p.0
          (ap Some p.2 ∙ c.in_err-left.ensures.refused))
          refl (record { long = refl; rest = refl }, refl);
      past = record { long = refl; rest = refl };
      returning = refl;
      refused = λ linked. refl;
      unlent = λ linked. refl;
    })

pub returns : goal.returns
returns g c =
    let n = c.args.self.now in
    let m = g.C.Catalog.meaning n.catalog in
    let lawful = g.C.Catalog.lawful n.catalog in
    let free = c.in_ok-left.ensures.refused in
    let never : Linked m n.state → OnErr c.insert.result ⊥ =
    λ linked. MatchResult-weaker c.insert.result c.insert.ensures.added (λ v did. tt)
    (λ e cannot. both_ways _ cannot (may_add m lawful n.state c.args.constraint c.args.waiting.now c.args.returning.now linked c.know.new.self.state free (c.know.ensures.learnt linked)))
    in
    record {
      catalog = c.insert.ensures.catalog ∙ c.know.ensures.catalog;
      performs = λ linked.
          took_lent m n.state c.insert.new.self.state (buffers c.args.waiting.now c.args.returning.now) (buffers c.insert.new.waiting c.args.returning.now) _ c.insert.result
          (add_took m lawful n.state c.args.constraint c.args.waiting.now c.args.returning.now linked c.insert.new.self.state c.know.new.self.state c.insert.result free
          (c.know.ensures.learnt linked) c.insert.ensures.added c.insert.ensures.wiped c.insert.ensures.variables c.insert.ensures.known)
          (MatchResult-weaker c.insert.result (never linked) (λ v did. tt) (λ e no. absurd no)) (c.insert.ensures.past, refl);
      past = c.insert.ensures.past;
      returning = refl;
      refused = λ linked. MatchResult-weaker c.insert.result (never linked) (λ v did. tt) (λ e no. absurd no);
      unlent = λ linked. MatchResult-weaker c.insert.result (never linked) (λ v did. tt) (λ e no. absurd no);
    }
