-- One turn on the way through the values of an arc's near variable.
use Rattle.std.proofs.Common.{◌≡◌, ℕ, ◌+◌, ◌<◌, true, get_or, sym, ap, ◌∙◌, ⊎_elim, arith}
use lib.Bits.{bit_and}
use Rattle.std.proofs.lemmas.Bool.{cases_eq, cases_lt, both_ways}
use Rattle.arcs.specs.Family.{Support}
use Rattle.bits.specs.Bits.{has_bit}
use Rattle.bits.proofs.Bitwise.{share, share_positive}
use Rattle.bits.proofs.Coded.{has_low}
use Rattle.arcs.specs.Standing.{Timed}
use Rattle.arcs.specs.Changes.{PutOut}
use Rattle.arcs.specs.Justifying.{OutKept}
use Rattle.arcs.proofs.Keeps.{same_trans, dated_trans, dated_put_out, put_out_keeps}
use Rattle.domains.specs.declared.Arc.{Arc}
use Rattle.domains.specs.declared.Constraints.{Constraints}
use Rattle.domains.specs.declared.Domains.{Domains}
use Rattle.domains.specs.Model.{within, arcs_of, shown, standing, total, row, no_justification}
use Rattle.domains.specs.Sound.{Sound, Went, Facing, Revising}
use Rattle.domains.proofs.Values.{out_total}

pub total_positive : (d : Domains) (i x : ℕ) → i < 32 → x < 64 → shown d i x ≡ true → 0 < total d.sets
total_positive d i x low fits was = omega (arith, out_total d i x low fits no_justification was)

-- ---- values go out

pub went_trans : (c : Constraints) (d d' d'' : Domains) → Went c d d' → Went c d' d'' → Went c d d''
went_trans c d d' d'' p q =
    record {
      fewer = λ i x h. p.fewer i x (q.fewer i x h);
      kept = λ i x o.
          same_trans (standing d) (standing d') (standing d'') i x (p.kept i x o)
          (q.kept i x (record { inside = o.inside; gone = (p.kept i x o).shown ∙ o.gone }));
      dated = dated_trans (within c) d.clock d'.clock (standing d) (standing d') (standing d'') p.later p.dated q.dated;
      spent = q.spent ∙ p.spent;
      later = omega (arith, p.later, q.later);
      idle = λ e. q.idle (omega (arith, e, p.later, q.later)) ∙ p.idle (omega (arith, e, p.later, q.later));
    }

-- one value without support goes out
module _ (c : Constraints) (d d' : Domains) (i x p : ℕ) (sound : Sound c d) (put : PutOut (standing d) (standing d') i x p d.clock) where
  -- what is shown after was shown before, and is another value
  pub shown_before : (j y : ℕ) → shown d' j y ≡ true → shown d j y ≡ true
  shown_before j y h =
      ⊎_elim
      (λ e. ⊎_elim (λ f. absurd (both_ways (shown d' j y) (rw (← e, ← f) put.gone) h))
      (λ ne. sym (put.others j y (λ q. ne q.1)).shown ∙ h) (cases_eq x y))
      (λ ne. sym (put.others j y (λ q. ne q.0)).shown ∙ h) (cases_eq i j)

  pub went_out : (arcs_of c).on i p ≡ true → (Support (arcs_of c) (shown d) i p x → ⊥) → d'.clock ≡ d.clock + 1 → total d'.sets + 1 ≡ total d.sets → Sound c d' × Went c d d'
  went_out on none clock fewer =
      let k : OutKept (arcs_of c) (within c) (standing d) (standing d') d.clock =
      put_out_keeps (arcs_of c) (within c) (standing d) (standing d') i x p d.clock sound.timed put on none sound.justified
      in
      let t : Timed (within c) (standing d') d'.clock = rw clock k.timed in (
        record { inside = λ j y h. sound.inside j y (shown_before j y h); justified = k.justified; timed = t },
        record { fewer = shown_before; kept = k.kept; dated = dated_put_out (within c) (standing d) (standing d') i x p d.clock put; spent = omega arith; later = omega arith; idle = λ e. absurd (omega arith) },
      )

-- ---- supports by bits

module _ (c : Constraints) (d : Domains) (a : Arc) (facing : Facing c a) (x : ℕ) (low : x < 64) where
  pub support_yes : 0 < bit_and (get_or d.sets a.far 0) (row c a.rows x) → Support (arcs_of c) (shown d) a.near a.constraint x
  support_yes h =
      let s : (y : ℕ) × (has_bit (get_or d.sets a.far 0) y ≡ true) × (has_bit (row c a.rows x) y ≡ true) =
      share 64 (get_or d.sets a.far 0) (row c a.rows x) (d.wide a.far) h
      in
      record {
        value = s.0;
        shown = ap (λ j. shown d j s.0) facing.far ∙ s.1;
        beside = facing.fits x s.0 low (has_low 64 (get_or d.sets a.far 0) s.0 (d.wide a.far) s.1) ∙ s.2;
      }

  pub support_no : bit_and (get_or d.sets a.far 0) (row c a.rows x) ≡ 0 → Support (arcs_of c) (shown d) a.near a.constraint x → ⊥
  support_no e s =
      let h : shown d a.far s.value ≡ true = ap (λ j. shown d j s.value) (sym facing.far) ∙ s.shown in
      let f : has_bit (row c a.rows x) s.value ≡ true =
      sym (facing.fits x s.value low (has_low 64 (get_or d.sets a.far 0) s.value (d.wide a.far) h)) ∙ s.beside
      in
      let g : 0 < bit_and (get_or d.sets a.far 0) (row c a.rows x) = share_positive (get_or d.sets a.far 0) (row c a.rows x) s.value h f in
      omega arith

-- ---- the turns

-- the value x stays
pub revising_keep : (c : Constraints) (d d' : Domains) (a : Arc) (x : ℕ) → (shown d' a.near x ≡ true → Support (arcs_of c) (shown d) a.near a.constraint x) → Revising c d d' a x → Revising c d d' a (x + 1)
revising_keep c d d' a x sup r =
    record {
      sound = r.sound;
      went = r.went;
      below =
          record {
            supported = λ k h s.
                ⊎_elim (λ l. r.below.supported k l s)
                (λ g. let e : x ≡ k = omega arith in rw (← e) (sup (rw e s))) (cases_lt k x);
            kept = r.below.kept;
            later = λ k h. r.below.later k (omega arith);
            others = r.below.others;
          };
    }

-- the value x goes out
module _ (c : Constraints) (d d' d'' : Domains) (a : Arc) (x : ℕ) (facing : Facing c a) (r : Revising c d d' a x) (put : PutOut (standing d') (standing d'') a.near x a.constraint d'.clock) where
  other_value : (k : ℕ) → (x ≡ k → ⊥) → shown d'' a.near k ≡ shown d' a.near k
  other_value k ne = (put.others a.near k (λ e. ne e.1)).shown

  pub revising_out : (Support (arcs_of c) (shown d) a.near a.constraint x → ⊥) → d''.clock ≡ d'.clock + 1 → total d''.sets + 1 ≡ total d'.sets → ((j : ℕ) → (j ≡ a.near → ⊥) → get_or d''.sets j 0 ≡ get_or d'.sets j 0) → Revising c d d'' a (x + 1)
  revising_out none clock fewer others =
      let none' : Support (arcs_of c) (shown d') a.near a.constraint x → ⊥ =
      λ s. none (record { value = s.value; shown = r.went.fewer ((arcs_of c).far a.near a.constraint) s.value s.shown; beside = s.beside })
      in
      let k : Sound c d'' × Went c d' d'' = went_out c d' d'' a.near x a.constraint r.sound put facing.on none' clock fewer in
      record {
        sound = k.0;
        went = went_trans c d d' d'' r.went k.1;
        below =
            record {
              supported = λ k h s.
                  ⊎_elim (λ l. r.below.supported k l (shown_before c d' d'' a.near x a.constraint r.sound put a.near k s))
                  (λ g. let e : x ≡ k = omega arith in absurd (both_ways (shown d'' a.near k) (rw (← e) put.gone) s)) (cases_lt k x);
              kept = λ k h s. other_value k (λ e. none (rw e s)) ∙ r.below.kept k h s;
              later = λ k h. other_value k (λ e. omega arith) ∙ r.below.later k (omega arith);
              others = λ j ne. others j ne ∙ r.below.others j ne;
            };
      }
