use Rattle.domains.proofs.Lengths.{same_data}
use Rattle.engine.proofs.Called.{afresh_opened, afresh_stands, stood}
use Rattle.engine.proofs.state.Engine.open.Goals as goal

pub invariant_of-self-2 : goal.invariant_of-self-2
invariant_of-self-2 c =
    let n = c.args.self.now.constraints in
    let d = c.args.self.now.domains in
    record {
      stands = ∣ afresh_stands n d c.begin.new.d c.args.sizes.now c.capped-sizes.result c.full-sets.result c.args.time (stood c.args.self.now) c.capped-sizes.ensures.long
          c.capped-sizes.ensures.sizes c.full-sets.ensures.shown _ same_data c.begin.ensures.sets c.begin.ensures.why c.begin.ensures.clock ∣₁;
    }

pub returns : goal.returns
returns c =
    let n = c.args.self.now.constraints in
    let d = c.args.self.now.domains in
    afresh_opened n d c.begin.new.d c.args.sizes.now c.capped-sizes.result c.full-sets.result c.args.time (stood c.args.self.now) c.capped-sizes.ensures.long
    c.capped-sizes.ensures.sizes c.full-sets.ensures.shown _ same_data c.begin.ensures.sets c.begin.ensures.why c.begin.ensures.clock
