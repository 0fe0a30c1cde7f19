-- What keeps everything justified.
use Rattle.std.proofs.Common.{◌≡◌, ℕ, ◌+◌, ◌<◌, ◌≤◌, true, false, ◌⊎◌, sym, refl, ap, ◌∙◌, inl, inr, ⊎_elim, arith}
use Rattle.std.proofs.lemmas.Bool.{cases_Bool, cases_eq, both_ways}
use Rattle.arcs.specs.Arcs.{Arcs}
use Rattle.arcs.specs.Family.{Family, Support}
use Rattle.arcs.specs.Standing.{Standing, Out, Accounts, Justified, Reasons, Rests, names, through, Timed}
use Rattle.arcs.specs.Changes.{Stays, ExceptReasons, Same, Dated, PutOut, Released}
use Rattle.arcs.specs.Justifying.{MoreKeeps, PutOutKeeps, ReleaseKeeps}

pub stays_refl : (a : Arcs) (i r : ℕ) → a.on i r ≡ true → Stays a a i r
stays_refl a i r h = record { on = h; far = refl; fits = λ x y. refl }

pub same_refl : (s : Standing) (i x : ℕ) → Same s s i x
same_refl s i x = record { shown = refl; reason = refl; time = refl }

pub same_trans : (s s' s'' : Standing) (i x : ℕ) → Same s s' i x → Same s' s'' i x → Same s s'' i x
same_trans s s' s'' i x p q = record { shown = q.shown ∙ p.shown; reason = q.reason ∙ p.reason; time = q.time ∙ p.time }

-- a reason that stays, with the values that it lets stand beside x as they were, goes on accounting for x
moved : (a a' : Arcs) (b : Family) (s s' : Standing) (i x r t : ℕ) → Stays a a' i r → Accounts a b s i x r t → ((y : ℕ) → b (a.far i r) y ≡ true → a.fits i r x y ≡ true → Same s s' (a.far i r) y) → Accounts a' b s' i x r t
moved a a' b s s' i x r t st acc same =
    record {
      on = st.on;
      gone = λ y h f. ap (λ j. s'.shown j y) st.far ∙ (same y (inner y h) (fit y f)).shown ∙ acc.gone y (inner y h) (fit y f);
      before = λ y h f.
          let e : s'.time (a'.far i r) y ≡ s.time (a.far i r) y = ap (λ j. s'.time j y) st.far ∙ (same y (inner y h) (fit y f)).time in
          omega (arith, e, acc.before y (inner y h) (fit y f));
    }
  where
    inner : (y : ℕ) → b (a'.far i r) y ≡ true → b (a.far i r) y ≡ true
    inner y h = ap (λ j. b j y) (sym st.far) ∙ h

    fit : (y : ℕ) → a'.fits i r x y ≡ true → a.fits i r x y ≡ true
    fit y f = sym (st.fits x y) ∙ f

-- the justification of one value, read in a standing that has the same one
reread : (a : Arcs) (b : Family) (s s' s'' : Standing) (i x : ℕ) → Same s s' i x → Accounts a b s'' i x (s.reason i x) (s.time i x) → Accounts a b s'' i x (s'.reason i x) (s'.time i x)
reread a b s s' s'' i x e acc = rw (e.reason, e.time) acc

pub out_same : (b : Family) (s s' : Standing) (i x : ℕ) → Same s s' i x → Out b s' i x → Out b s i x
out_same b s s' i x e o = record { inside = o.inside; gone = sym e.shown ∙ o.gone }

pub dated_trans : (b : Family) (t t' : ℕ) (s s' s'' : Standing) → t ≤ t' → Dated b t s s' → Dated b t' s' s'' → Dated b t s s''
dated_trans b t t' s s' s'' later p q i x o old =
    let second = q i x o (omega (arith, old, later)) in
    let first = p i x second.0 (omega (arith, old, second.1.time)) in
    (first.0, same_trans s s' s'' i x first.1 second.1)

pub more_keeps : MoreKeeps
more_keeps a a' b s more j i x out =
    moved a a' b s s i x (s.reason i x) (s.time i x) (more i (s.reason i x) (j i x out).on) (j i x out) (λ y _ _. same_refl s (a.far i (s.reason i x)) y)

-- ---- a value goes out last

-- it is this value, or another one
this : (i x j y : ℕ) → ((i ≡ j) × (x ≡ y)) ⊎ ((i ≡ j) × (x ≡ y) → ⊥)
this i x j y =
    ⊎_elim (λ e. ⊎_elim (λ f. inl (e, f)) (λ ne. inr (λ p. ne p.1)) (cases_eq x y)) (λ ne. inr (λ p. ne p.0)) (cases_eq i j)

pub dated_put_out : (b : Family) (s s' : Standing) (i x r t : ℕ) → PutOut s s' i x r t → Dated b t s s'
dated_put_out b s s' i x r t put j y o old =
    ⊎_elim
    (λ e. absurd (let k : s'.time j y ≡ t = ap (λ n. s'.time n y) (sym e.0) ∙ ap (s'.time i) (sym e.1) ∙ put.time in omega (arith, old, k)))
    (λ ne. (out_same b s s' j y (put.others j y ne) o, put.others j y ne))
    (this i x j y)

module _ (a : Arcs) (b : Family) (s s' : Standing) (i x r clock : ℕ) (timed : Timed b s clock) (put : PutOut s s' i x r clock) where
  -- what was out is another value
  other_out : (j y : ℕ) → s.shown j y ≡ false → Same s s' j y
  other_out j y o = put.others j y (λ e. both_ways (s.shown j y) o (ap (λ k. s.shown k y) (sym e.0) ∙ ap (λ z. s.shown i z) (sym e.1) ∙ put.shown))

  new_accounts : a.on i r ≡ true → (Support a s.shown i r x → ⊥) → Accounts a b s i x r clock
  new_accounts on none =
      record {
        on = on;
        gone = gone;
        before = λ y h f. timed.below (a.far i r) y (record { inside = h; gone = gone y h f });
      }
    where
      gone : (y : ℕ) → b (a.far i r) y ≡ true → a.fits i r x y ≡ true → s.shown (a.far i r) y ≡ false
      gone y h f = ⊎_elim (λ t. absurd (none (record { value = y; shown = t; beside = f }))) (λ t. t) (cases_Bool (s.shown (a.far i r) y))

  kept_accounts : (j y q t : ℕ) → Accounts a b s j y q t → Accounts a b s' j y q t
  kept_accounts j y q t acc =
      moved a a b s s' j y q t (stays_refl a j q acc.on) acc (λ z h f. other_out (a.far j q) z (acc.gone z h f))

  -- a value that is out now is the new one, or was out before and is as it was
  old_or_new : (j y : ℕ) → Out b s' j y → ((i ≡ j) × (x ≡ y)) ⊎ (Out b s j y × Same s s' j y)
  old_or_new j y out = ⊎_elim (λ e. inl e) (λ ne. inr (out_same b s s' j y (put.others j y ne) out, put.others j y ne)) (this i x j y)

  now_justified : Accounts a b s i x r clock → Justified a b s → Justified a b s'
  now_justified acc just j y out =
      ⊎_elim
      (λ e. at_new e.0 e.1)
      (λ o. reread a b s s' s' j y o.1 (kept_accounts j y (s.reason j y) (s.time j y) (just j y o.0)))
      (old_or_new j y out)
    where
      here : Accounts a b s' i x (s'.reason i x) (s'.time i x)
      here = rw (put.reason, put.time) (kept_accounts i x r clock acc)

      at_new : i ≡ j → x ≡ y → Accounts a b s' j y (s'.reason j y) (s'.time j y)
      at_new e f = rw (← e, ← f) here

  time_new : (j y : ℕ) → (i ≡ j) × (x ≡ y) → s'.time j y ≡ clock
  time_new j y e = ap (λ k. s'.time k y) (sym e.0) ∙ ap (λ z. s'.time i z) (sym e.1) ∙ put.time

  now_below : (j y : ℕ) → Out b s' j y → s'.time j y < clock + 1
  now_below j y out =
      ⊎_elim (λ e. omega (arith, time_new j y e)) (λ o. omega (arith, o.1.time, timed.below j y o.0)) (old_or_new j y out)

  now_timed : Timed b s' (clock + 1)
  now_timed =
      record {
        below = now_below;
        apart = λ j y k z o o' e.
            ⊎_elim
            (λ n. ⊎_elim (λ n'. (sym n.0 ∙ n'.0, sym n.1 ∙ n'.1))
            (λ p. absurd (omega (arith, e, time_new j y n, p.1.time, timed.below k z p.0))) (old_or_new k z o'))
            (λ p. ⊎_elim (λ n'. absurd (omega (arith, e, time_new k z n', p.1.time, timed.below j y p.0)))
            (λ p'. timed.apart j y k z p.0 p'.0 (sym p.1.time ∙ e ∙ p'.1.time)) (old_or_new k z o'))
            (old_or_new j y o);
      }

pub put_out_keeps : PutOutKeeps
put_out_keeps a b s s' i x r clock timed put on none just =
    record {
      justified = now_justified a b s s' i x r clock timed put (new_accounts a b s s' i x r clock timed put on none) just;
      timed = now_timed a b s s' i x r clock timed put;
      kept = λ j y o. other_out a b s s' i x r clock timed put j y o.gone;
    }

-- ---- lost reasons

module _ (a a' : Arcs) (b : Family) (p : Reasons) (s s' : Standing) (clock : ℕ) (rel : Released a b p s s') where
  -- what is out now was out before, as it is
  still_out : (i x : ℕ) → Out b s' i x → Out b s i x
  still_out i x o =
      record {
        inside = o.inside;
        gone = ⊎_elim (λ t. absurd (both_ways (s'.shown i x) o.gone (rel.shown i x t))) (λ t. t) (cases_Bool (s.shown i x));
      }

  still_same : (i x : ℕ) → Out b s' i x → Same s s' i x
  still_same i x o = rel.kept i x (still_out i x o) o.gone

  -- what is out now rests on nothing of p
  rests_not : (i x : ℕ) → Out b s' i x → Rests a b s p i x → ⊥
  rests_not i x o h = both_ways (s'.shown i x) o.gone (rel.back i x h)

  left_justified : ExceptReasons p a a' → Justified a b s → Justified a' b s'
  left_justified except just i x o =
      reread a' b s s' s' i x (still_same i x o)
      (moved a a' b s s' i x (s.reason i x) (s.time i x) (except i (s.reason i x) other (just i x was).on) (just i x was) beside)
    where
      was : Out b s i x
      was = still_out i x o

      other : p i (s.reason i x) ≡ false
      other = ⊎_elim (λ t. absurd (rests_not i x o (names was t))) (λ t. t) (cases_Bool (p i (s.reason i x)))

      beside : (y : ℕ) → b (a.far i (s.reason i x)) y ≡ true → a.fits i (s.reason i x) x y ≡ true → Same s s' (a.far i (s.reason i x)) y
      beside y h f =
          let out : Out b s (a.far i (s.reason i x)) y = record { inside = h; gone = (just i x was).gone y h f } in
          ⊎_elim (λ t. absurd (rests_not i x o (through was y f (rel.only (a.far i (s.reason i x)) y out t))))
          (λ t. rel.kept (a.far i (s.reason i x)) y out t)
          (cases_Bool (s'.shown (a.far i (s.reason i x)) y))

  left_timed : Timed b s clock → Timed b s' clock
  left_timed timed =
      record {
        below = λ i x o. omega (arith, (still_same i x o).time, timed.below i x (still_out i x o));
        apart = λ i x j y o o' e. timed.apart i x j y (still_out i x o) (still_out j y o') (sym (still_same i x o).time ∙ e ∙ (still_same j y o').time);
      }

  left_kept : (i x : ℕ) → Out b s i x → (Rests a b s p i x → ⊥) → Same s s' i x
  left_kept i x o h = ⊎_elim (λ t. absurd (h (rel.only i x o t))) (λ t. rel.kept i x o t) (cases_Bool (s'.shown i x))

  -- nothing that is out is new
  left_dated : Dated b clock s s'
  left_dated i x o old = (still_out i x o, still_same i x o)

pub release_keeps : ReleaseKeeps
release_keeps a a' b p s s' clock timed except rel just =
    record {
      justified = left_justified a a' b p s s' clock rel except just;
      timed = left_timed a a' b p s s' clock rel timed;
      kept = left_kept a a' b p s s' clock rel;
      dated = left_dated a a' b p s s' clock rel;
    }
