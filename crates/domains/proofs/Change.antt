-- A constraint goes in or out: what stays.
use Rattle.std.proofs.Common.{◌≡◌, ℕ, ◌+◌, ◌*◌, ◌^◌, ◌<◌, ◌≤◌, Bool, true, false, cond, ◌&&◌, ◌||◌, eqb, ltb, List, length, get_or, sym, refl, ap, ◌∙◌, subst, ⊎_elim, arith}
use Rattle.std.proofs.lemmas.List.{get_or-set_same, get_or-set_other}
use Rattle.std.proofs.lemmas.Bool.{cases_eq, cases_lt, both_ways, and_parts, and_from, eqb-false}
use Rattle.arcs.specs.Family.{Support, Consistent, Inside}
use Rattle.bits.specs.Bits.{has_bit}
use Rattle.arcs.specs.Standing.{Out, Timed, Rests}
use Rattle.arcs.specs.Changes.{Stays, MoreReasons, ExceptReasons, Dated, Same, Released}
use Rattle.arcs.specs.Justifying.{ReleaseKept}
use Rattle.arcs.proofs.Keeps.{dated_trans, more_keeps, release_keeps, same_trans}
use Rattle.domains.specs.declared.Constraints.{Constraints}
use Rattle.domains.specs.declared.Domains.{Domains}
use Rattle.domains.specs.Model.{within, is_present, left_of, right_of, pair_at, arcs_of, shown, standing, total, reason_is}
use Rattle.domains.specs.Sound.{Rose, Shape, Sound, Went, Supported, Settled}
use Rattle.domains.specs.Stands.{last_time, Stands, with_present}
use Rattle.domains.proofs.Entries.{total_few}
use Rattle.domains.proofs.Facing.{on_present, tied_low}
use Rattle.domains.proofs.Props.{stands_largest}

-- ---- the arcs

module _ (c : Constraints) (p : ℕ) (b : Bool) where
  same_pair : (r x y : ℕ) → pair_at (with_present c p b) r x y ≡ pair_at c r x y
  unfolding pair_at
  same_pair r x y = refl

  same_fits : (i r x y : ℕ) → (arcs_of (with_present c p b)).fits i r x y ≡ (arcs_of c).fits i r x y
  same_fits i r x y =
      ap (λ t. cond (eqb (left_of c r) i) t (pair_at (with_present c p b) r y x)) (same_pair r x y)
      ∙ ap (λ t. cond (eqb (left_of c r) i) (pair_at c r x y) t) (same_pair r y x)

  other_present : (r : ℕ) → (r ≡ p → ⊥) → is_present (with_present c p b) r ≡ is_present c r
  other_present r ne = get_or-set_other c.present p r b false ne

  pub other_on : (i r : ℕ) → (r ≡ p → ⊥) → (arcs_of (with_present c p b)).on i r ≡ (arcs_of c).on i r
  other_on i r ne = ap (λ t. ltb r 128 && (t && (eqb (left_of c r) i || eqb (right_of c r) i))) (other_present r ne)

  other_stays : (i r : ℕ) → (r ≡ p → ⊥) → (arcs_of c).on i r ≡ true → Stays (arcs_of c) (arcs_of (with_present c p b)) i r
  other_stays i r ne on = record { on = other_on i r ne ∙ on; far = refl; fits = same_fits i r }

  -- under any other constraint supports are as they were
  pub other_supported : (d : Domains) (r : ℕ) → (r ≡ p → ⊥) → Supported c d r → Supported (with_present c p b) d r
  other_supported d r ne sup i x on h =
      let s : Support (arcs_of c) (shown d) i r x = sup i x (sym (other_on i r ne) ∙ on) h in
      record { value = s.value; shown = s.shown; beside = same_fits i r x s.value ∙ s.beside }

  pub shape_present : ((r : ℕ) → is_present (with_present c p b) r ≡ true → left_of c r ≡ right_of c r → ⊥) → Shape c → Shape (with_present c p b)
  shape_present apart s =
      record { small = s.small; left_low = s.left_low; right_low = s.right_low; apart = apart; mirror = s.mirror }

-- ---- a constraint goes in

module _ (c : Constraints) (d : Domains) (p : ℕ) (low : p < 128) (stands : Stands c d) where
  this_present : is_present (with_present c p true) p ≡ true
  this_present = get_or-set_same c.present p true false (omega (arith, c.present_long))

  pub shape_in : (left_of c p ≡ right_of c p → ⊥) → Shape (with_present c p true)
  shape_in apart =
      shape_present c p true
      (λ r h. ⊎_elim (λ e. λ f. apart (subst (λ k. left_of c k ≡ right_of c k) e f)) (λ ne. stands.shape.apart r (sym (other_present c p true r ne) ∙ h)) (cases_eq r p))
      stands.shape

  more_in : MoreReasons (arcs_of c) (arcs_of (with_present c p true))
  more_in i r on =
      ⊎_elim
      (λ e. record { on = here e; far = refl; fits = same_fits c p true i r })
      (λ ne. other_stays c p true i r ne on)
      (cases_eq r p)
    where
      here : r ≡ p → (arcs_of (with_present c p true)).on i r ≡ true
      here e =
          let ends : (is_present c r && (eqb (left_of c r) i || eqb (right_of c r) i)) ≡ true = (and_parts (ltb r 128) _ on).1 in
          let P : ℕ → Type 0 = λ k. is_present (with_present c p true) k ≡ true in
          and_from (ltb r 128) _ (and_parts (ltb r 128) _ on).0
          (and_from (is_present (with_present c p true) r) _ (subst P (sym e) this_present) (and_parts (is_present c r) _ ends).1)

  pub sound_in : Sound (with_present c p true) d
  sound_in =
      record {
        inside = stands.sound.inside;
        justified = more_keeps (arcs_of c) (arcs_of (with_present c p true)) (within c) (standing d) more_in stands.sound.justified;
        timed = stands.sound.timed;
      }

  pub settled_in : (marks : List Bool) → get_or marks p false ≡ true → Settled (with_present c p true) d marks
  settled_in marks m r un =
      other_supported c p true d r (λ e. both_ways (get_or marks r false) un (subst (λ k. get_or marks k false ≡ true) (sym e) m))
      (λ i x on h. stands.consistent i r x on h)

-- the clock does not run over
pub time_left : (d : Domains) → d.clock ≤ last_time → d.clock + total d.sets < 2 ^ 32
time_left d h =
    let few : total d.sets ≤ 64 * length d.sets = total_few d.sets d.wide in
    omega (arith, few, d.sets_long)

-- ---- a constraint goes out

module _ (c : Constraints) (d d' : Domains) (p : ℕ) (low : p < 128) (stands : Stands c d) where
  absent : is_present (with_present c p false) p ≡ false
  absent = get_or-set_same c.present p false false (omega (arith, c.present_long))

  -- a constraint that is in then is another one
  in_other : (i r : ℕ) → (arcs_of (with_present c p false)).on i r ≡ true → r ≡ p → ⊥
  in_other i r on e =
      both_ways (is_present (with_present c p false) p) absent
      (subst (λ k. is_present (with_present c p false) k ≡ true) e (on_present (with_present c p false) i r on))

  pub shape_out : Shape (with_present c p false)
  shape_out =
      shape_present c p false
      (λ r h. ⊎_elim
      (λ e. absurd (both_ways (is_present (with_present c p false) p) absent (subst (λ k. is_present (with_present c p false) k ≡ true) e h)))
      (λ ne. stands.shape.apart r (sym (other_present c p false r ne) ∙ h)) (cases_eq r p))
      stands.shape

  except_out : ExceptReasons (reason_is p) (arcs_of c) (arcs_of (with_present c p false))
  except_out i r f on = other_stays c p false i r (eqb-false r p f) on

  -- what was consistent is so under fewer constraints
  pub consistent_out : Consistent (arcs_of (with_present c p false)) (shown d)
  consistent_out i r x on h = other_supported c p false d r (in_other i r on) (λ j y o s. stands.consistent j r y o s) i x on h

  module _ (rel : Released (arcs_of c) (within c) (reason_is p) (standing d) (standing d')) (clock : d'.clock ≡ d.clock) where
    release_kept : ReleaseKept (arcs_of c) (arcs_of (with_present c p false)) (within c) (reason_is p) (standing d) (standing d') d.clock
    release_kept =
        release_keeps (arcs_of c) (arcs_of (with_present c p false)) (within c) (reason_is p) (standing d) (standing d') d.clock stands.sound.timed except_out rel stands.sound.justified

    pub sound_out : Inside (within c) (shown d') → Sound (with_present c p false) d'
    sound_out inside =
        record {
          inside = inside;
          justified = release_kept.justified;
          timed = subst (λ t. Timed (within c) (standing d') t) (sym clock) release_kept.timed;
        }

    -- each constraint at a variable that gained values waits
    pub settled_out : (marks : List Bool) → ((i r : ℕ) → i < 32 → (get_or d'.sets i 0 ≡ get_or d.sets i 0 → ⊥) → (arcs_of (with_present c p false)).on i r ≡ true → get_or marks r false ≡ true) → Settled (with_present c p false) d' marks
    settled_out marks waits r un i x on h =
        ⊎_elim
        (λ e.
        let s : Support (arcs_of (with_present c p false)) (shown d) i r x = consistent_out i r x on (ap (λ n. has_bit n x) (sym e) ∙ h) in
        record { value = s.value; shown = rel.shown ((arcs_of c).far i r) s.value s.shown; beside = s.beside })
        (λ ne. absurd (both_ways (get_or marks r false) un (waits i r (tied_low (with_present c p false) i r shape_out on) ne on)))
        (cases_eq (get_or d'.sets i 0) (get_or d.sets i 0))

    -- all that was shown is shown in the end
    pub grew_out : (d'' : Domains) → Stands (with_present c p false) d'' → Inside (shown d'') (shown d)
    grew_out d'' s =
        (stands_largest (with_present c p false) d'' s).contains (shown d) stands.sound.inside consistent_out

    -- what goes out again has a time from the clock on
    pub dated_out : (d'' : Domains) → Went (with_present c p false) d' d'' → Dated (within c) d.clock (standing d) (standing d'')
    dated_out d'' went =
        dated_trans (within c) d.clock d'.clock (standing d) (standing d') (standing d'') (omega (arith, clock)) release_kept.dated went.dated

    -- the clock rises by one for each value that goes out again
    pub rose_out : (d'' : Domains) → Inside (within c) (shown d') → Went (with_present c p false) d' d'' → Rose c d d''
    rose_out d'' inside went =
        record {
          between = d';
          inside = inside;
          spent = omega (arith, went.spent, clock);
          fewer = went.fewer;
          gone = λ i x here gone.
              ⊎_elim
              (λ early. absurd (both_ways (shown d' i x) (went.dated i x (record { inside = inside i x here; gone = gone }) (omega (arith, early, clock))).0.gone here))
              (λ late. late)
              (cases_lt ((standing d'').time i x) d.clock);
          stayed = λ i x within_ gone.
              let o : Out (within c) (standing d') i x = record { inside = within_; gone = gone } in
              omega (arith, (went.kept i x o).time, release_kept.timed.below i x o);
        }

    -- what does not rest on p keeps its justification
    pub kept_out : (d'' : Domains) → Went (with_present c p false) d' d'' → (i x : ℕ) → Out (within c) (standing d) i x → (Rests (arcs_of c) (within c) (standing d) (reason_is p) i x → ⊥) → Same (standing d) (standing d'') i x
    kept_out d'' went i x o h =
        let s : Same (standing d) (standing d') i x = release_kept.kept i x o h in
        same_trans (standing d) (standing d') (standing d'') i x s (went.kept i x (record { inside = o.inside; gone = s.shown ∙ o.gone }))
