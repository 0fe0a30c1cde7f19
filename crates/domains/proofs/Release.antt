-- Putting back what rests on a constraint, value by value.
use Rattle.std.proofs.Common.{◌≡◌, ℕ, ◌<◌, true, false, ◌⊎◌, List, [], ◌∷◌, ◌++◌, sym, refl, ap, ◌∙◌, subst, inl, inr, ⊎_elim}
use Rattle.std.proofs.lemmas.Bool.{cases_eq, cases_Bool, both_ways, eqb-true}
use Rattle.arcs.specs.Standing.{Out, Rests, names, through}
use Rattle.arcs.specs.Changes.{PutBack, Released}
use Rattle.domains.specs.declared.Constraints.{Constraints}
use Rattle.domains.specs.declared.Domains.{Domains}
use Rattle.domains.specs.declared.Justification.{Justification}
use Rattle.domains.specs.declared.Returning.{Returning}
use Rattle.domains.specs.Model.{within, arcs_of, shown, standing, entry, reason_is}
use Rattle.domains.specs.Sound.{Sound}
use Rattle.domains.specs.Releasing.{Stands, Low, Back, Followed, Releasing}

-- ---- the list

pub stands_before : (w : List Returning) (e : Returning) (i x : ℕ) → Stands w i x → Stands (w ++ (e ∷ [])) i x
stands_before [] e i x h = absurd h
stands_before (f ∷ w) e i x (inl h) = inl h
stands_before (f ∷ w) e i x (inr h) = inr (stands_before w e i x h)

pub stands_last : (w : List Returning) (e : Returning) (i x : ℕ) → e.variable ≡ i → e.value ≡ x → Stands (w ++ (e ∷ [])) i x
stands_last [] e i x p q = inl (p, q)
stands_last (f ∷ w) e i x p q = inr (stands_last w e i x p q)

pub stands_cases : (w : List Returning) (e : Returning) (i x : ℕ) → Stands (w ++ (e ∷ [])) i x → Stands w i x ⊎ ((e.variable ≡ i) × (e.value ≡ x))
stands_cases [] e i x (inl h) = inr h
stands_cases [] e i x (inr h) = absurd h
stands_cases (f ∷ w) e i x (inl h) = inl (inl h)
stands_cases (f ∷ w) e i x (inr h) = ⊎_elim (λ s. inl (inr s)) (λ s. inr s) (stands_cases w e i x h)

pub low_push : (w : List Returning) (e : Returning) → Low w → e.variable < 32 → e.value < 64 → Low (w ++ (e ∷ []))
low_push [] e l p q = (p, q, tt)
low_push (f ∷ w) e l p q = (l.0, l.1, low_push w e l.2 p q)

-- ---- one value comes back

module _ (d d' : Domains) (i x : ℕ) (put : PutBack (standing d) (standing d') i x) where
  pub back_grows : (j y : ℕ) → shown d j y ≡ true → shown d' j y ≡ true
  back_grows j y h =
      ⊎_elim
      (λ e. ⊎_elim (λ f. rw (← e, ← f) put.back) (λ ne. (put.others j y (λ q. ne q.1)).shown ∙ h) (cases_eq x y))
      (λ ne. (put.others j y (λ q. ne q.0)).shown ∙ h) (cases_eq i j)

  -- what is shown then was shown before, or is this value
  pub back_cases : (j y : ℕ) → shown d' j y ≡ true → (shown d j y ≡ true) ⊎ ((i ≡ j) × (x ≡ y))
  back_cases j y h =
      ⊎_elim
      (λ e. ⊎_elim (λ f. inr (e, f)) (λ ne. inl (sym (put.others j y (λ q. ne q.1)).shown ∙ h)) (cases_eq x y))
      (λ ne. inl (sym (put.others j y (λ q. ne q.0)).shown ∙ h)) (cases_eq i j)

-- what is out now was out at the start
pub was_out : (c : Constraints) (p : ℕ) (d d' : Domains) (w : List Returning) (i x : ℕ) → Releasing c p d d' w → within c i x ≡ true → shown d' i x ≡ false → Out (within c) (standing d) i x
was_out c p d d' w i x r inside gone =
    record {
      inside = inside;
      gone = ⊎_elim (λ t. absurd (both_ways (shown d' i x) gone (r.shown_still i x t))) (λ t. t) (cases_Bool (shown d i x));
    }

pub releasing_start : (c : Constraints) (p : ℕ) (d : Domains) → Sound c d → Releasing c p d d []
releasing_start c p d sound =
    record {
      justified = sound.justified;
      shown_still = λ i x h. h;
      why = refl;
      only = λ i x b. absurd (both_ways (shown d i x) b.out.gone b.back);
      waiting = λ i x s. absurd s;
      done = λ i x b. absurd (both_ways (shown d i x) b.out.gone b.back);
    }

-- a value that rests on p comes back and waits last
module _ (c : Constraints) (p : ℕ) (d d' d'' : Domains) (w : List Returning) (e : Returning) (i x : ℕ) (r : Releasing c p d d' w) (put : PutBack (standing d') (standing d'') i x) where
  older : (j y : ℕ) → Back c d d'' j y → Back c d d' j y ⊎ ((i ≡ j) × (x ≡ y))
  older j y b = ⊎_elim (λ h. inl (record { out = b.out; back = h })) (λ h. inr h) (back_cases d' d'' i x put j y b.back)

  followed_still : (j y : ℕ) → Followed c d d' j y → Followed c d d'' j y
  followed_still j y f k z o a b = back_grows d' d'' i x put k z (f k z o a b)

  pub releasing_free : e.variable ≡ i → e.value ≡ x → d''.why ≡ d'.why → Out (within c) (standing d) i x → Rests (arcs_of c) (within c) (standing d) (reason_is p) i x → Releasing c p d d'' (w ++ (e ∷ []))
  releasing_free ei ex why out rests =
      record {
        justified = r.justified;
        shown_still = λ j y h. back_grows d' d'' i x put j y (r.shown_still j y h);
        why = why ∙ r.why;
        only = λ j y b. ⊎_elim (λ o. r.only j y o) (λ q. at_new j y q) (older j y b);
        waiting = λ j y s.
            ⊎_elim (λ o. record { out = (r.waiting j y o).out; back = back_grows d' d'' i x put j y (r.waiting j y o).back })
            (λ q. new_back j y (sym ei ∙ q.0) (sym ex ∙ q.1))
            (stands_cases w e j y s);
        done = λ j y b.
            ⊎_elim
            (λ o. ⊎_elim (λ s. inl (stands_before w e j y s)) (λ f. inr (followed_still j y f)) (r.done j y o))
            (λ q. inl (stands_last w e j y (ei ∙ q.0) (ex ∙ q.1)))
            (older j y b);
      }
    where
      at_new : (j y : ℕ) → (i ≡ j) × (x ≡ y) → Rests (arcs_of c) (within c) (standing d) (reason_is p) j y
      at_new j y q =
          let P : ℕ → Type 0 = λ k. Rests (arcs_of c) (within c) (standing d) (reason_is p) k x in
          let Q : ℕ → Type 0 = λ z. Rests (arcs_of c) (within c) (standing d) (reason_is p) j z in
          subst Q q.1 (subst P q.0 rests)

      new_back : (j y : ℕ) → i ≡ j → x ≡ y → Back c d d'' j y
      new_back j y a b =
          let P : ℕ → Type 0 = λ k. Back c d d'' k x in
          let Q : ℕ → Type 0 = λ z. Back c d d'' j z in
          subst Q b (subst P a (record { out = out; back = put.back }))

-- the first of the list is followed
pub releasing_drop : (c : Constraints) (p : ℕ) (d d' : Domains) (v : Returning) (w : List Returning) → Followed c d d' v.variable v.value → Releasing c p d d' (v ∷ w) → Releasing c p d d' w
releasing_drop c p d d' v w f r =
    record {
      justified = r.justified;
      shown_still = r.shown_still;
      why = r.why;
      only = r.only;
      waiting = λ i x s. r.waiting i x (inr s);
      done = λ i x b.
          ⊎_elim (λ s. ⊎_elim (λ q. inr (here i x q.0 q.1)) (λ t. inl t) s) (λ g. inr g) (r.done i x b);
    }
  where
    here : (i x : ℕ) → v.variable ≡ i → v.value ≡ x → Followed c d d' i x
    here i x a b =
        let P : ℕ → Type 0 = λ k. Followed c d d' k v.value in
        let Q : ℕ → Type 0 = λ z. Followed c d d' i z in
        subst Q b (subst P a f)

-- none waits, and every value whose justification names p is back: exactly what rests on p is
module _ (c : Constraints) (p : ℕ) (d d' : Domains) (r : Releasing c p d d' []) (named : (i x : ℕ) → Out (within c) (standing d) i x → (standing d).reason i x ≡ p → shown d' i x ≡ true) where
  all_back : (i x : ℕ) → Rests (arcs_of c) (within c) (standing d) (reason_is p) i x → shown d' i x ≡ true
  all_back i x (names o e) = named i x o (eqb-true ((standing d).reason i x) p e)
  all_back i x (through o y f h) =
      let there : shown d' ((arcs_of c).far i ((standing d).reason i x)) y ≡ true = all_back ((arcs_of c).far i ((standing d).reason i x)) y h in
      ⊎_elim (λ s. absurd s) (λ g. g i x o refl f)
      (r.done ((arcs_of c).far i ((standing d).reason i x)) y (record { out = rests_out _ y h; back = there }))
    where
      rests_out : (j y : ℕ) → Rests (arcs_of c) (within c) (standing d) (reason_is p) j y → Out (within c) (standing d) j y
      rests_out j y (names o e) = o
      rests_out j y (through o z f h) = o

  pub released : Released (arcs_of c) (within c) (reason_is p) (standing d) (standing d')
  released =
      record {
        shown = r.shown_still;
        back = all_back;
        only = λ i x o h. r.only i x (record { out = o; back = h });
        kept = λ i x o g.
            record {
              shown = g ∙ sym o.gone;
              reason = ap (λ (why : List (List Justification)). (entry why i x).constraint) r.why;
              time = ap (λ (why : List (List Justification)). (entry why i x).time) r.why;
            };
      }
