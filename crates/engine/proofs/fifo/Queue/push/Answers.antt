use Rattle.std.proofs.Common.{refl, ⊎_elim, arith, rules}
use Rattle.std.proofs.lemmas.List.{drop-set-lt}
use Rattle.engine.proofs.Turns.{push_at, tail_ways}
use Rattle.engine.proofs.fifo.Queue.push.Goals as goal

pub returns : goal.returns
returns g c =
    let q = c.args.self.now in
    let ways = tail_ways q.limit q.head q.len c.tail-place.result c.tail-place.ensures in
    record {
      fits = search rules;
      waiting = push_at q.buffer.now q.limit q.head q.len c.tail-place.result c.args.entry q.within q.turn (omega arith) ways;
      len = refl;
      back = search rules;
      kept =
          record {
            same = refl;
            limit = refl;
            long = search rules;
            rest = drop-set-lt q.limit q.buffer.now c.tail-place.result c.args.entry
                (⊎_elim (λ w. omega (arith, w.0, w.1)) (λ w. omega (arith, w.0, w.1, q.turn)) ways);
          };
    }
