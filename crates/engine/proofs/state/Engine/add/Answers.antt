use Rattle.std.proofs.Common.{arith}
use Rattle.engine.proofs.Called.{right_now, stood}
use Rattle.engine.proofs.state.Engine.add.Goals as goal

pub returns : goal.returns
returns c =
    record {
      can = c.if-not-can_add.ensures;
      added =
          record {
            constraints = c.insert.ensures.present;
            right = right_now c.insert.new.self.constraints c.insert.new.self.domains (stood c.insert.new.self);
            went = c.insert.ensures.went;
            count = omega (arith, c.insert.ensures.went.later);
          };
      past = c.insert.ensures.past;
    }
