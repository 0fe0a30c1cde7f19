use Rattle.std.proofs.Common.{OnErr, Err, Some, refl, ap, ◌∙◌}
use Rattle.std.proofs.lemmas.Result.{err_from_is_err_and, MatchResult-weaker}
use Rattle.std.proofs.lemmas.Bool.{both_ways}
use Rattle.network.specs.Model.{Linked}
use Rattle.network.specs.Performs.{buffers}
use Rattle.network.proofs.Changing.{retract_refused, retract_took, may_retract}
use Rattle.network.proofs.Lending.{took_lent}
use Rattle.network.proofs.network.Network.retract.Goals as goal

pub returns-in_err-check_retract : goal.returns-in_err-check_retract
returns-in_err-check_retract g c =
    let p = err_from_is_err_and c.from_residual.result c.from_residual.ensures.1 in
    let n = c.args.self.now in
    rw p.1
    (record {
      catalog = refl;
      performs = λ linked.
          took_lent (g.C.Catalog.meaning n.catalog) n.state n.state (buffers c.args.waiting.now c.args.returning.now) (buffers c.args.waiting.now c.args.returning.now) _ (Err p.0)
          (retract_refused (g.C.Catalog.meaning n.catalog) (g.C.Catalog.lawful n.catalog) n.state c.args.constraint c.args.waiting.now c.args.returning.now linked p.0
          (ap Some p.2 ∙ c.in_err-check_retract.ensures))
          refl (record { long = refl; rest = refl }, record { long = refl; rest = refl });
      past = record { long = refl; rest = refl };
      past_returning = record { long = refl; rest = refl };
      refused = λ linked. refl;
      unlent = λ linked. refl;
      unlent_returning = λ linked. refl;
    })

pub returns : goal.returns
returns g c =
    let n = c.args.self.now in
    let m = g.C.Catalog.meaning n.catalog in
    let lawful = g.C.Catalog.lawful n.catalog in
    let free = c.in_ok-check_retract.ensures in
    let never : Linked m n.state → OnErr c.remove.result ⊥ =
    λ linked. MatchResult-weaker c.remove.result c.remove.ensures.retracted (λ v did. tt)
    (λ e cannot. both_ways _ cannot (may_retract m lawful n.state c.args.constraint c.args.waiting.now c.args.returning.now linked free))
    in
    record {
      catalog = c.remove.ensures.catalog;
      performs = λ linked.
          took_lent m n.state c.remove.new.self.state (buffers c.args.waiting.now c.args.returning.now) (buffers c.remove.new.waiting c.remove.new.returning) _ c.remove.result
          (retract_took m lawful n.state c.args.constraint c.args.waiting.now c.args.returning.now linked c.remove.new.self.state c.remove.result free
          c.remove.ensures.retracted c.remove.ensures.wiped c.remove.ensures.variables c.remove.ensures.known)
          (MatchResult-weaker c.remove.result (never linked) (λ v did. tt) (λ e no. absurd no)) (c.remove.ensures.past, c.remove.ensures.past_returning);
      past = c.remove.ensures.past;
      past_returning = c.remove.ensures.past_returning;
      refused = λ linked. MatchResult-weaker c.remove.result (never linked) (λ v did. tt) (λ e no. absurd no);
      unlent = λ linked. MatchResult-weaker c.remove.result (never linked) (λ v did. tt) (λ e no. absurd no);
      unlent_returning = λ linked. MatchResult-weaker c.remove.result (never linked) (λ v did. tt) (λ e no. absurd no);
    }
