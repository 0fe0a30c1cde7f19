use Rattle.std.proofs.Common.{length, subst, take}
use Rattle.network.specs.History.{History}
use Rattle.network.specs.Model.{moment_of}
use Rattle.network.specs.Performs.{buffers, lengths_of}
use Rattle.network.specs.Requests.{calls_of}
use Rattle.network.proofs.calls.perform.Goals as goal

pub returns-clause-law : goal.returns-clause-law
returns-clause-law g c =
    let made = c.new-network in
    let did = c.perform in
    let before = buffers c.args.waiting.now c.args.returning.now in
    let calls = calls_of (lengths_of c.args.waiting.now c.args.returning.now) (take (length c.args.answers.now) c.args.calls.now) in
    record {
      first = moment_of made.result.state;
      blank = made.ensures.blank;
      right = made.ensures.right;
      history =
          subst
          (λ v. History (g.C.Catalog.meaning v) (moment_of made.result.state) before calls (take (length c.args.calls.now) did.new.answers) (moment_of did.new.self.state) (buffers did.new.waiting did.new.returning))
          made.ensures.catalog (did.ensures.law made.ensures.linked);
    }
