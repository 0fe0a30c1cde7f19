use Rattle.std.proofs.Common.{◌≡◌, ◌≤◌, length, take, sym, ap, ◌∙◌, subst, arith}
use Rattle.std.proofs.lemmas.List.{length-take-le}
use Rattle.network.specs.Performs.{buffers, lengths_of}
use Rattle.network.specs.Model.{Linked}
use Rattle.network.proofs.Runs.{past_trans, past_set, same_lengths, call_more}
use Rattle.network.proofs.network.Network.perform.Goals as goal

pub loop-i-preserved : goal.loop-i-preserved
loop-i-preserved g c =
    let inv = c.loop-i.invariant in
    let now = c.loop-i.self in
    let did = c.answer in
    let first = c.args.self.now in
    let calls = take c.min-there.result c.args.calls.now in
    let there : length calls ≡ c.min-there.result = length-take-le c.min-there.result c.args.calls.now (omega (arith, c.min-there.ensures)) in
    record {
      catalog = did.ensures.catalog ∙ inv.catalog;
      stands = λ stands. subst (λ v. Linked (g.C.Catalog.meaning v) did.new.self.state) (sym did.ensures.catalog) (did.ensures.performs (inv.stands stands)).linked;
      history = λ stands.
          call_more (g.C.Catalog.meaning first.catalog) (g.C.Catalog.meaning now.catalog) _ (buffers c.args.waiting.now c.args.returning.now) (buffers c.loop-i.waiting c.loop-i.returning) (buffers did.new.waiting did.new.returning)
          calls c.loop-i.i _ (lengths_of c.args.waiting.now c.args.returning.now) (lengths_of c.loop-i.waiting c.loop-i.returning) c.loop-i.answers did.result now.state did.new.self.state
          (omega arith) (omega (arith, inv.answers.long, there)) (same_lengths c.args.waiting.now c.loop-i.waiting c.args.returning.now c.loop-i.returning inv.past inv.past_returning)
          (ap g.C.Catalog.meaning inv.catalog) (inv.history stands) (did.ensures.performs (inv.stands stands));
      answers = past_set c.loop-i.i c.args.answers.now c.loop-i.answers did.result inv.answers;
      past = past_trans 128 c.args.waiting.now c.loop-i.waiting did.new.waiting inv.past did.ensures.past;
      past_returning = past_trans 2048 c.args.returning.now c.loop-i.returning did.new.returning inv.past_returning did.ensures.past_returning;
    }
