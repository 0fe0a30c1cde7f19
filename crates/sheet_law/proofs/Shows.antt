-- What a record shows says its kind and its body.
use Rattle.std.proofs.Common.{◌≡◌, ℕ, ◌+◌, ◌<◌, ◌≤◌, Bool, true, false, cond, eqb, ltb, ◌⊎◌, List, [], ◌∷◌, length, get_or, drop, Some, None, Option, refl, subst, inl, inr, ⊎_elim, arith}
use Rattle.std.proofs.lemmas.Bool.{eqb-true, ltb-true, ltb-false}
use Rattle.sheet_format.specs.Reading.{Shown, shows_heading, shows_variable, shows_sum, shows_table, shows_short_table, shows_add, shows_retract, shows_end, shown, shown_table}

abbrev pub KindIs : ℕ → List ℕ → Shown → Type 0
KindIs kind body (shows_heading b) = (kind ≡ 1) × (body ≡ b)
KindIs kind body (shows_variable b) = (kind ≡ 2) × (body ≡ b)
KindIs kind body (shows_sum b) = (kind ≡ 3) × (body ≡ b)
KindIs kind body (shows_table x y rows place) = (kind ≡ 4) × (body ≡ x ∷ (y ∷ rows))
KindIs kind body (shows_short_table b) = (kind ≡ 4) × (body ≡ b) × (length b < 2)
KindIs kind body (shows_add b) = (kind ≡ 5) × (body ≡ b)
KindIs kind body (shows_retract b) = (kind ≡ 6) × (body ≡ b)
KindIs kind body (shows_end b) = (kind ≡ 7) × (body ≡ b)

pick : (b : Bool) (t : Shown) (next : Option Shown) (s : Shown) → cond b (Some t) next ≡ Some s → ((b ≡ true) × (t ≡ s)) ⊎ (next ≡ Some s)
pick true t next s e = inl (refl, cc)
pick false t next s e = inr e

never : (s : Shown) → ◌≡◌ {A = Option Shown} None (Some s) → ⊥
never s e = let z : ◌≡◌ {A = ℕ} 0 1 = cc in omega arith

pub two_first : (body : List ℕ) → 2 ≤ length body → body ≡ get_or body 0 0 ∷ (get_or body 1 0 ∷ drop 2 body)
two_first [] h = absurd (omega arith)
two_first (x ∷ []) h = absurd (omega arith)
two_first (x ∷ (y ∷ rest)) h = refl

table_is : (kind : ℕ) (body : List ℕ) (place : ℕ) → kind ≡ 4 → (b : Bool) → ltb (length body) 2 ≡ b
    → KindIs kind body (cond b (shows_short_table body) (shows_table (get_or body 0 0) (get_or body 1 0) (drop 2 body) (place + 6)))
table_is kind body place e true t = (e, refl, ltb-true (length body) 2 t)
table_is kind body place e false t = (e, two_first body (ltb-false (length body) 2 t))

pub kind_is : (kind : ℕ) (body : List ℕ) (place : ℕ) (s : Shown) → shown kind body place ≡ Some s → KindIs kind body s
kind_is kind body place s e1 =
    ⊎_elim (λ h. subst (KindIs kind body) h.1 (eqb-true kind 1 h.0, refl)) (λ e2.
    ⊎_elim (λ h. subst (KindIs kind body) h.1 (eqb-true kind 2 h.0, refl)) (λ e3.
    ⊎_elim (λ h. subst (KindIs kind body) h.1 (eqb-true kind 3 h.0, refl)) (λ e4.
    ⊎_elim (λ h. subst (KindIs kind body) h.1 (table_is kind body place (eqb-true kind 4 h.0) (ltb (length body) 2) refl)) (λ e5.
    ⊎_elim (λ h. subst (KindIs kind body) h.1 (eqb-true kind 5 h.0, refl)) (λ e6.
    ⊎_elim (λ h. subst (KindIs kind body) h.1 (eqb-true kind 6 h.0, refl)) (λ e7.
    ⊎_elim (λ h. subst (KindIs kind body) h.1 (eqb-true kind 7 h.0, refl)) (λ e8. absurd (never s e8))
    (pick (eqb kind 7) (shows_end body) _ s e7))
    (pick (eqb kind 6) (shows_retract body) _ s e6))
    (pick (eqb kind 5) (shows_add body) _ s e5))
    (pick (eqb kind 4) (shown_table body place) _ s e4))
    (pick (eqb kind 3) (shows_sum body) _ s e3))
    (pick (eqb kind 2) (shows_variable body) _ s e2))
    (pick (eqb kind 1) (shows_heading body) _ s e1)
