-- House numbers that differ.
use Rattle.std.proofs.Common.{◌≡◌, ℕ, zero, suc, ◌<◌, ◌≤◌, true, false, eqb, List, [], ◌∷◌, ◌++◌, length, sym, refl, ap, ◌∙◌, ⊎_elim, arith}
use Rattle.std.proofs.lemmas.List.{length-append, get_or_append_left, get_or_at}
use Rattle.std.proofs.lemmas.Bool.{eqb-true, eqb-false, or_cases, or_parts, cases_lt, cases_Bool}
use Rattle.sheet_format.specs.declared.found.Variable.{Variable}
use Rattle.sheet_format.specs.Value.{no_variable, house_at, HousesDiffer}
use Rattle.sheet_format.specs.Verdict.{used}

pub used_found : (vs : List Variable) (h : ℕ) → used vs h ≡ true → (i : ℕ) × (i < length vs) × (house_at vs i ≡ h)
used_found [] h e = absurd (let z : ◌≡◌ {A = ℕ} 0 1 = cc in omega arith)
used_found (v ∷ vs) h e =
    ⊎_elim (λ f. (0, omega arith, eqb-true v.house h f)) (later (used_found vs h)) (or_cases (eqb v.house h) (used vs h) e)
  where
    later : (used vs h ≡ true → (i : ℕ) × (i < length vs) × (house_at vs i ≡ h)) → used vs h ≡ true → (i : ℕ) × (i < length (v ∷ vs)) × (house_at (v ∷ vs) i ≡ h)
    later found f = let p = found f in let l = p.1 in (suc p.0, omega arith, p.2)

pub used_none : (vs : List Variable) (h : ℕ) → used vs h ≡ false → (i : ℕ) → i < length vs → house_at vs i ≡ h → ⊥
used_none [] h e i l f = omega arith
used_none (v ∷ vs) h e zero l f = eqb-false v.house h (or_parts (eqb v.house h) (used vs h) e).0 f
used_none (v ∷ vs) h e (suc i) l f = used_none vs h (or_parts (eqb v.house h) (used vs h) e).1 i (omega arith) f

-- the houses of a list with one more at its middle
house_before : (us ws : List Variable) (i : ℕ) → i < length us → house_at (us ++ ws) i ≡ house_at us i
house_before us ws i l = ap (λ v. v.house) (get_or_append_left us ws no_variable i l)

house_stands_at : (us : List Variable) (v : Variable) (ws : List Variable) → house_at (us ++ v ∷ ws) (length us) ≡ v.house
house_stands_at us v ws = ap (λ x. x.house) (get_or_at us v ws no_variable (length us) refl)

pub differ_push : (us : List Variable) (v : Variable) → HousesDiffer us → used us v.house ≡ false → HousesDiffer (us ++ v ∷ [])
differ_push us v d e i j li lj f =
    ⊎_elim
    (λ hi. ⊎_elim
    (λ hj. d i j hi hj (sym (house_before us (v ∷ []) i hi) ∙ f ∙ house_before us (v ∷ []) j hj))
    (λ hj. absurd (used_none us v.house e i hi (sym (house_before us (v ∷ []) i hi) ∙ f ∙ last j hj lj)))
    (cases_lt j (length us)))
    (λ hi. ⊎_elim
    (λ hj. absurd (used_none us v.house e j hj (sym (house_before us (v ∷ []) j hj) ∙ sym f ∙ last i hi li)))
    (λ hj. let a = at_end i hi li in let b = at_end j hj lj in a ∙ sym b)
    (cases_lt j (length us)))
    (cases_lt i (length us))
  where
    at_end : (k : ℕ) → length us ≤ k → k < length (us ++ v ∷ []) → k ≡ length us
    at_end k h l = let n = length-append us (v ∷ []) in omega arith

    last : (k : ℕ) → length us ≤ k → k < length (us ++ v ∷ []) → house_at (us ++ v ∷ []) k ≡ v.house
    last k h l = ap (house_at (us ++ v ∷ [])) (at_end k h l) ∙ house_stands_at us v []

pub fresh : (us : List Variable) (v : Variable) (ws : List Variable) → HousesDiffer (us ++ v ∷ ws) → used us v.house ≡ false
fresh us v ws d = ⊎_elim seen (λ e. e) (cases_Bool (used us v.house))
  where
    seen : used us v.house ≡ true → used us v.house ≡ false
    seen e =
        let p = used_found us v.house e in
        let l : p.0 < length us = p.1 in
        let n = length-append us (v ∷ ws) in
        let same : p.0 ≡ length us =
        d p.0 (length us) (omega arith) (omega arith) (house_before us (v ∷ ws) p.0 l ∙ p.2 ∙ sym (house_stands_at us v ws)) in
        absurd (omega arith)
