use Rattle.std.proofs.Common.{[], ◌∷◌, sym, ap, subst}
use Rattle.network.specs.declared.law.Answer.TheVariants.{Opened, Domain}
use Rattle.network.specs.Calls.{adds, asks_domain, opens, retracts}
use Rattle.network.specs.History.{History}
use Rattle.network.specs.Model.{Linked, moment_of}
use Rattle.network.specs.Performs.{answer_by, buffers, lengths_of}
use Rattle.network.specs.ByHand.{answers_of}
use Rattle.network.proofs.OneByOne.{one_by_one}
use Rattle.network.proofs.by_hand.try_out.Goals as goal

pub returns-clause-law : goal.returns-clause-law
returns-clause-law g c =
    let made = c.new-network in
    let begun = c.open-opened in
    let add = c.add-added in
    let under = c.domain-under in
    let gone = c.retract-retracted in
    let after = c.domain-after in
    let w = c.args.waiting.now in
    let v = c.args.returning.now in
    let p = c.args.constraint in
    let i = c.args.variable in
    let lengths = lengths_of w v in
    let opened = begun.ensures.performs made.ensures.linked in
    let mean = g.C.Catalog.meaning in
    let stands₁ = subst (λ k. Linked (mean k) begun.new.self.state) (sym begun.ensures.catalog) opened.linked in
    let added = add.ensures.performs stands₁ in
    let stands₂ = subst (λ k. Linked (mean k) add.new.self.state) (sym add.ensures.catalog) added.linked in
    let taken = gone.ensures.performs stands₂ in
    let stands₃ = subst (λ k. Linked (mean k) gone.new.self.state) (sym gone.ensures.catalog) taken.linked in
    record {
      first = moment_of made.result.state;
      blank = made.ensures.blank;
      right = made.ensures.right;
      history =
          subst
          (λ k. History (g.C.Catalog.meaning k) (moment_of made.result.state) (buffers w v) (opens c.args.sizes.now 0 ∷ adds p lengths ∷ asks_domain i ∷ retracts p lengths ∷ asks_domain i ∷ []) (answers_of (record { opened = begun.result; added = add.result; under = under.result; retracted = gone.result; after = after.result })) (moment_of gone.new.self.state) (buffers gone.new.waiting gone.new.returning))
          made.ensures.catalog
          (one_by_one (g.C.Catalog.meaning made.result.catalog) (g.C.Catalog.meaning begun.new.self.catalog) (g.C.Catalog.meaning add.new.self.catalog) (g.C.Catalog.meaning gone.new.self.catalog)
          made.result.state begun.new.self.state add.new.self.state gone.new.self.state
          w add.new.waiting gone.new.waiting v add.new.returning gone.new.returning c.args.sizes.now p i
          (answer_by (λ _. Opened) begun.result) (answer_by (λ d. Domain d) under.result) (answer_by (λ d. Domain d) after.result) add.result gone.result
          (ap g.C.Catalog.meaning begun.ensures.catalog) (ap g.C.Catalog.meaning add.ensures.catalog) (ap g.C.Catalog.meaning gone.ensures.catalog)
          opened added add.ensures.returning add.ensures.past
          (under.ensures stands₂)
          taken
          (after.ensures stands₃));
    }
