use Rattle.std.proofs.Common.{◌≡◌, ℕ, ◌+◌, ◌<◌, ◌≤◌, List, Option, Some, None, length, get_or, sym, ap, ◌∙◌, subst, subst₂, ⊎_elim, arith}
use Rattle.std.proofs.lemmas.List.{get_or_read}
use Rattle.scratch.specs.declared.arc.Arc.{Arc}
use Rattle.scratch.specs.Rows.{is_kept, arc_of}
use Rattle.scratch.specs.Settling.{Swept}
use Rattle.scratch.proofs.Sweeping.{step_off, step_fresh, step_same, step_lost}
use Rattle.scratch.proofs.settle.pass.Goals as goal
use Rattle.scratch.proofs.settle.pass.Goals.{in-Some+then-has+then-revise, in-Some+else-has, else-has-via-then-has+else-revise, else-has-via-else-has, in_default}

pub loop-place-init : goal.loop-place-init
loop-place-init c =
    record {
      around = λ b h. h;
      settled = λ waits i k on below fresh. ⊎_elim (λ l. absurd (omega arith)) (λ old. waits i k on old) below;
      no_more = omega arith;
      fewer = λ h. absurd (omega arith);
    }

pub loop-place-preserved : goal.loop-place-preserved
loop-place-preserved c =
    let ks : List (Option Arc) = c.args.arcs.now in
    let k : ℕ = c.loop-place.place-index in
    let few : length c.loop-place.domains ≤ 64 = omega arith in
    let S : List ℕ → ℕ → Type 0 = λ ds next. Swept ks c.args.stale (k + 1) c.args.domains.now ds next in
    let read : get_or ks k None ≡ c.place-item.result = sym (get_or_read ks k c.place-item.result (omega arith) c.place-item.is None) in
    let within : (arc : Arc) → c.place-item.result ≡ Some arc → arc.near < length c.loop-place.domains =
    λ arc is.
    let h : arc.near < length c.args.domains.now =
    subst (λ o. (arc_of o).near < length c.args.domains.now) (read ∙ is) (c.requires.placed k (ap is_kept (read ∙ is))).0
    in
    omega arith
    in
    elim c.match-place.branch [
      | in-Some+then-has+then-revise w ↦
          subst₂ S (sym w.domains-is) (sym w.next-is)
          (step_lost ks _ k _ _ _ c.loop-place.invariant w.in-Some.arc (read ∙ w.in-Some.is) w.revise.new.domains w.with-next.result
          (within w.in-Some.arc w.in-Some.is) few w.if-revise.ensures w.with-next.ensures)
      | in-Some+else-has w ↦
          subst₂ S (sym w.domains-is) (sym w.next-is)
          (elim w.else-has.branch [
            | else-has-via-then-has+else-revise v ↦
                subst (λ ds. S ds c.loop-place.next) (sym v.domains-is)
                (step_same ks _ k _ _ _ c.loop-place.invariant w.in-Some.arc (read ∙ w.in-Some.is) v.revise.new.domains
                (within w.in-Some.arc w.in-Some.is) v.if-revise.ensures)
            | else-has-via-else-has v ↦
                subst (λ ds. S ds c.loop-place.next) (sym v.domains-is)
                (step_fresh ks _ k _ _ _ c.loop-place.invariant w.in-Some.arc (read ∙ w.in-Some.is) (sym w.has.ensures ∙ v.if-has.false))
          ])
      | in_default w ↦
          subst₂ S (sym w.domains-is) (sym w.next-is)
          (step_off ks _ k _ _ _ c.loop-place.invariant (read ∙ w.in_default.is))
    ]

pub returns : goal.returns
returns c =
    let all : c.loop-place.place-index ≡ length c.args.arcs.now = omega arith in
    subst (λ k. Swept c.args.arcs.now c.args.stale k c.args.domains.now c.loop-place.domains c.loop-place.next) all c.loop-place.invariant

pub revise-requires : goal.revise-requires
revise-requires c =
    let k : ℕ = c.loop-place.place-index in
    let read : get_or c.args.arcs.now k None ≡ Some c.in-Some.arc = sym (get_or_read c.args.arcs.now k c.place-item.result (omega arith) c.place-item.is None) ∙ c.in-Some.is in
    let inside : (c.in-Some.arc.near < length c.args.domains.now) × (c.in-Some.arc.far < length c.args.domains.now) =
    subst (λ o. ((arc_of o).near < length c.args.domains.now) × ((arc_of o).far < length c.args.domains.now)) read (c.requires.placed k (ap is_kept read))
    in
    record { near = omega (arith, inside.0); far = omega (arith, inside.1) }
