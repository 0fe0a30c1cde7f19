use Rattle.std.proofs.Common.{subst, ◌*◌, ◌≤◌, false, replicate, length, refl, arith, rules}
use Rattle.arcs.specs.Family.{Consistent}
use Rattle.domains.specs.Model.{arcs_of, shown, total}
use Rattle.domains.specs.Sound.{Shape, Sound, Settled, Went}
use Rattle.domains.specs.Stands.{Stands, with_present}
use Rattle.domains.proofs.Lengths.{same_data}
use Rattle.domains.proofs.Change.{shape_out, sound_out, settled_out, dated_out, rose_out, grew_out, kept_out, time_left}
use Rattle.domains.proofs.Entries.{total_few}
use Rattle.engine.proofs.Called.{stands_again, stood}
use Rattle.engine.proofs.Start.{queued_start}
use Rattle.engine.proofs.state.Engine.remove.Goals as goal

pub enqueue_changed-requires : goal.enqueue_changed-requires
enqueue_changed-requires c =
    record {
      queued = queued_start c.new-q.result (replicate 128 false) _ refl c.new-q.ensures.waiting c.new-q.ensures.len c.new-q.ensures.limit c.requires.long;
    }

pub propagate-requires : goal.propagate-requires
propagate-requires c =
    let n = c.args.self.now.constraints in
    let d = c.args.self.now.domains in
    let d' = c.release_through.new.d in
    let p = c.args.constraint in
    record {
      shape = subst Shape same_data (shape_out n d d' p c.requires.low (stood c.args.self.now));
      sound = subst (λ k. Sound k d') same_data (sound_out n d d' p c.requires.low (stood c.args.self.now) c.release_through.ensures.released c.release_through.ensures.clock c.release_through.ensures.inside);
      time = time_left d' (omega (arith, c.release_through.ensures.clock, c.requires.time));
      queued = c.enqueue_changed.ensures.queued;
      settled = subst (λ k. Settled k d' c.enqueue_changed.new.marks) same_data (settled_out n d d' p c.requires.low (stood c.args.self.now) c.release_through.ensures.released c.release_through.ensures.clock c.enqueue_changed.new.marks c.enqueue_changed.ensures.waits);
    }

pub returns : goal.returns
returns c =
    let n = c.args.self.now.constraints in
    let d = c.args.self.now.domains in
    let d' = c.release_through.new.d in
    let d'' = c.propagate.new.d in
    let p = c.args.constraint in
    let few : total d'.sets ≤ 64 * length d'.sets = total_few d'.sets d'.wide in
    let stands : Stands (with_present n p _) d'' =
    record {
      shape = shape_out n d d' p c.requires.low (stood c.args.self.now);
      sound = subst (λ k. Sound k d'') same_data c.propagate.ensures.sound;
      consistent = subst (λ k. Consistent (arcs_of k) (shown d'')) same_data c.propagate.ensures.consistent;
    }
    in
    record {
      absent = same_data;
      kept = kept_out n d d' p c.requires.low (stood c.args.self.now) c.release_through.ensures.released c.release_through.ensures.clock d'' (subst (λ k. Went k d' d'') same_data c.propagate.ensures.went);
      dated = dated_out n d d' p c.requires.low (stood c.args.self.now) c.release_through.ensures.released c.release_through.ensures.clock d'' (subst (λ k. Went k d' d'') same_data c.propagate.ensures.went);
      rose = rose_out n d d' p c.requires.low (stood c.args.self.now) c.release_through.ensures.released c.release_through.ensures.clock d'' c.release_through.ensures.inside (subst (λ k. Went k d' d'') same_data c.propagate.ensures.went);
      grew = grew_out n d d' p c.requires.low (stood c.args.self.now) c.release_through.ensures.released c.release_through.ensures.clock d'' stands;
      later = omega (arith, c.release_through.ensures.clock, c.propagate.ensures.went.later);
      soon = omega (arith, few, d'.sets_long, c.release_through.ensures.clock, c.propagate.ensures.went.spent);
      past = search rules;
      past_returning = c.release_through.ensures.past;
    }

pub release_through-requires-clause-stands : goal.release_through-requires-clause-stands
release_through-requires-clause-stands c = stood c.args.self.now

pub invariant_of-self : goal.invariant_of-self
invariant_of-self c =
    record {
      stands =
          stands_again _ _ (subst Shape same_data (shape_out _ _ c.release_through.new.d c.args.constraint c.requires.low (stood c.args.self.now))) c.propagate.ensures.sound c.propagate.ensures.consistent;
    }
