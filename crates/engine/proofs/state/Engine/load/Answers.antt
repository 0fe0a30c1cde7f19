use Rattle.domains.proofs.Setup.{stands_load}
use Rattle.engine.proofs.Called.{ends_loadable, stood}
use Rattle.engine.proofs.state.Engine.load.Goals as goal

pub write-requires : goal.write-requires
write-requires c =
    record {
      loadable =
          ends_loadable c.args.self.now.constraints c.args.constraint c.args.left c.args.right c.in_ok-ends.ends c.in_ok-ends.ensures.fault c.in_ok-ends.ensures.ends;
      shape = (stood c.args.self.now).shape;
    }

pub invariant_of-self : goal.invariant_of-self
invariant_of-self c =
    let n = c.args.self.now.constraints in
    let e = c.in_ok-ends.ends in
    let a = ends_loadable n c.args.constraint c.args.left c.args.right e c.in_ok-ends.ensures.fault c.in_ok-ends.ensures.ends in
    record { stands = ∣ stands_load n _ _ c.args.constraint e.left e.right c.args.rows.now a.absent c.write.ensures.loaded c.write.ensures.shape (stood c.args.self.now) ∣₁ }
