use Rattle.std.proofs.Common.{◌≡◌, true, false, length, get_or, replicate, refl, subst, ap, ◌∙◌, arith}
use Rattle.std.proofs.lemmas.List.{get_or-set_same, length-replicate}
use Rattle.domains.specs.Sound.{Shape, Sound, Settled}
use Rattle.domains.proofs.Lengths.{same_data}
use Rattle.domains.proofs.Change.{shape_in, sound_in, settled_in, time_left}
use Rattle.engine.proofs.Called.{stands_again, stood}
use Rattle.engine.proofs.Start.{queued_start}
use Rattle.engine.proofs.state.Engine.insert.Goals as goal

pub enqueue-requires : goal.enqueue-requires
enqueue-requires c =
    record {
      low = c.requires.low;
      queued = queued_start c.new-q.result (replicate 128 false) _ refl c.new-q.ensures.waiting c.new-q.ensures.len c.new-q.ensures.limit c.requires.long;
    }

pub propagate-requires : goal.propagate-requires
propagate-requires c =
    let n = c.args.self.now.constraints in
    let d = c.args.self.now.domains in
    let p = c.args.constraint in
    let long : length (replicate 128 false) ≡ 128 = length-replicate 128 false in
    let here : get_or c.enqueue.new.marks p false ≡ true =
    ap (λ m. get_or m p false) c.enqueue.ensures.marks ∙ get_or-set_same (replicate 128 false) p true false (omega (arith, long, c.requires.low))
    in
    record {
      shape = subst Shape same_data (shape_in n d p c.requires.low (stood c.args.self.now) c.requires.apart);
      sound = subst (λ k. Sound k d) same_data (sound_in n d p c.requires.low (stood c.args.self.now));
      time = time_left d c.requires.time;
      queued = c.enqueue.ensures.queued;
      settled = subst (λ k. Settled k d c.enqueue.new.marks) same_data (settled_in n d p c.requires.low (stood c.args.self.now) c.enqueue.new.marks here);
    }

pub invariant_of-self : goal.invariant_of-self
invariant_of-self c =
    record {
      stands =
          stands_again _ _ (subst Shape same_data (shape_in _ _ c.args.constraint c.requires.low (stood c.args.self.now) c.requires.apart)) c.propagate.ensures.sound c.propagate.ensures.consistent;
    }

pub returns-clause-present : goal.returns-clause-present
returns-clause-present c = same_data
