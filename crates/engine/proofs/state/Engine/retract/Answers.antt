use Rattle.std.proofs.Common.{arith}
use Rattle.engine.proofs.Called.{more_shown, right_now, stood}
use Rattle.engine.proofs.state.Engine.retract.Goals as goal

pub overflow_sub-result : goal.overflow_sub-result
overflow_sub-result c = omega (
  arith,
  more_shown c.args.self.now.constraints c.remove.new.self.constraints c.args.self.now.domains c.remove.new.self.domains
      (stood c.args.self.now) (stood c.remove.new.self) c.remove.ensures.grew,
  c.count.ensures,
  c.count-before.ensures,
)

pub returns : goal.returns
returns c =
    record {
      can = c.if-not-can_retract.ensures;
      retracted =
          record {
            constraints = c.remove.ensures.absent;
            right = right_now c.remove.new.self.constraints c.remove.new.self.domains (stood c.remove.new.self);
            grew = c.remove.ensures.grew;
            kept = c.remove.ensures.kept;
            dated = c.remove.ensures.dated;
            rose = c.remove.ensures.rose;
            later = c.remove.ensures.later;
            soon = c.remove.ensures.soon;
            count = omega (
              arith,
              more_shown c.args.self.now.constraints c.remove.new.self.constraints c.args.self.now.domains c.remove.new.self.domains
                  (stood c.args.self.now) (stood c.remove.new.self) c.remove.ensures.grew,
              c.count.ensures,
              c.count-before.ensures,
            );
          };
      past = c.remove.ensures.past;
      past_returning = c.remove.ensures.past_returning;
    }
