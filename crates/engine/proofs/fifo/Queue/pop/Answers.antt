use Rattle.std.proofs.Common.{◌≡◌, [], refl, arith, rules}
use Rattle.std.proofs.lemmas.List.{nil_from_length}
use Rattle.engine.specs.Waiting.{waits}
use Rattle.engine.proofs.Turns.{length-waits, pop_at, start_ways}
use Rattle.engine.proofs.fifo.Queue.pop.Goals as goal

pub returns-then-self-eq0 : goal.returns-then-self-eq0
returns-then-self-eq0 g c =
    let e : waits c.args.self.now ≡ [] =
    nil_from_length (waits c.args.self.now) (omega (arith, length-waits c.args.self.now))
    in
    record {
      waiting = (e, e);
      len = (search rules, search rules);
      kept = record { same = refl; limit = refl; long = refl; rest = refl };
    }

pub returns : goal.returns
returns g c =
    let q = c.args.self.now in
    record {
      waiting = pop_at q.buffer.now q.limit q.head q.len c.start-head.result _ q.within q.turn q.few c.if-self-eq0.false
          (start_ways q.limit q.head c.start-head.result c.start-head.ensures);
      len = search rules;
      kept = record { same = refl; limit = refl; long = refl; rest = refl };
    }
