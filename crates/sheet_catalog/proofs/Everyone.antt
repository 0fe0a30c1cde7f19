-- As many different numbers below n as n are all of them.
use Rattle.std.proofs.Common.{◌≡◌, ℕ, zero, suc, ◌<◌, ◌≢◌, cond, eqb, ◌⊎◌, inl, inr, sym, ap, ◌∙◌, ⊎_elim, arith}
use Rattle.std.proofs.lemmas.Bool.{cases_eq, cases_lt, eq-eqb, ne_eqb, cond-true, cond-false}

-- the numbers of i below n, with another at n
with_last : (ℕ → ℕ) → ℕ → ℕ → ℕ → ℕ
with_last f n h i = cond (eqb i n) h (f i)

at_last : (f : ℕ → ℕ) (n h i : ℕ) → i ≡ n → with_last f n h i ≡ h
unfolding with_last
at_last f n h i e = cond-true (eqb i n) h (f i) (eq-eqb i n e)

before_last : (f : ℕ → ℕ) (n h i : ℕ) → i ≢ n → with_last f n h i ≡ f i
unfolding with_last
before_last f n h i e = cond-false (eqb i n) h (f i) (ne_eqb i n e)

-- the place n is given up: who has it takes another
given_up : (ℕ → ℕ) → ℕ → ℕ → ℕ → ℕ
given_up f n last i = cond (eqb (f i) n) last (f i)

who_had_it : (f : ℕ → ℕ) (n last i : ℕ) → f i ≡ n → given_up f n last i ≡ last
unfolding given_up
who_had_it f n last i e = cond-true (eqb (f i) n) last (f i) (eq-eqb (f i) n e)

who_had_not : (f : ℕ → ℕ) (n last i : ℕ) → f i ≢ n → given_up f n last i ≡ f i
unfolding given_up
who_had_not f n last i e = cond-false (eqb (f i) n) last (f i) (ne_eqb (f i) n e)

-- one number more than there are places: two are equal
crowded : (n : ℕ) (f : ℕ → ℕ) → ((i : ℕ) → i < suc n → f i < n) → ((i j : ℕ) → i < j → j < suc n → f i ≢ f j) → ⊥
crowded zero f low apart = let h : f 0 < 0 = low 0 (omega arith) in omega arith
crowded (suc n) f low apart = crowded n (given_up f n (f (suc n))) lower further
  where
    lower : (i : ℕ) → i < suc n → given_up f n (f (suc n)) i < n
    lower i l =
        let a : f (suc n) < suc n = low (suc n) (omega arith) in
        let b : f i < suc n = low i (omega arith) in
        ⊎_elim
        (λ e. let k = who_had_it f n (f (suc n)) i e in
        ⊎_elim (λ q. absurd (apart i (suc n) l (omega arith) (e ∙ sym q))) (λ q. let c = below_last (f (suc n)) n a q in omega arith) (cases_eq (f (suc n)) n))
        (λ e. let k = who_had_not f n (f (suc n)) i e in let c = below_last (f i) n b e in omega arith)
        (cases_eq (f i) n)
      where
        below_last : (x n : ℕ) → x < suc n → x ≢ n → x < n
        below_last x n l q = ⊎_elim (λ c. c) (λ c. absurd (q (omega arith))) (cases_lt x n)

    further : (i j : ℕ) → i < j → j < suc n → given_up f n (f (suc n)) i ≢ given_up f n (f (suc n)) j
    further i j l m q =
        ⊎_elim
        (λ e. ⊎_elim
        (λ d. apart i j l (omega arith) (e ∙ sym d))
        (λ d. apart j (suc n) m (omega arith) (sym (who_had_not f n (f (suc n)) j d) ∙ sym q ∙ who_had_it f n (f (suc n)) i e))
        (cases_eq (f j) n))
        (λ e. ⊎_elim
        (λ d. apart i (suc n) (omega arith) (omega arith) (sym (who_had_not f n (f (suc n)) i e) ∙ q ∙ who_had_it f n (f (suc n)) j d))
        (λ d. apart i j l (omega arith) (sym (who_had_not f n (f (suc n)) i e) ∙ q ∙ who_had_not f n (f (suc n)) j d))
        (cases_eq (f j) n))
        (cases_eq (f i) n)

pub record Has (n : ℕ) (f : ℕ → ℕ) (h : ℕ) : Type 0 where
  pub at : ℕ
  pub low : at < n
  pub is : f at ≡ h

-- one of them is h, or none is
looked_for : (n : ℕ) (f : ℕ → ℕ) (h : ℕ) → Has n f h ⊎ ((e : ℕ) → e < n → f e ≢ h)
looked_for zero f h = inr (λ e l. absurd (omega arith))
looked_for (suc n) f h =
    ⊎_elim (λ s. inl (record { at = n; low = omega arith; is = s }))
    (λ s. ⊎_elim (λ (r : Has n f h). inl (record { at = r.at; low = (let l : r.at < n = r.low in omega arith); is = r.is }))
    (λ r. inr (λ e l q. ⊎_elim (λ c. r e c q) (λ c. s (ap f (let z : n ≡ e = omega arith in z) ∙ q)) (cases_lt e n)))
    (looked_for n f h))
    (cases_eq (f n) h)

pub everyone : (n : ℕ) (f : ℕ → ℕ) → ((i : ℕ) → i < n → f i < n) → ((i j : ℕ) → i < j → j < n → f i ≢ f j) → (h : ℕ) → h < n → Has n f h
everyone n f low apart h l = ⊎_elim (λ r. r) (λ none. absurd (crowded n (with_last f n h) (lower none) (further none))) (looked_for n f h)
  where
    lower : ((e : ℕ) → e < n → f e ≢ h) → (i : ℕ) → i < suc n → with_last f n h i < n
    lower none i m =
        ⊎_elim (λ c. let k = before_last f n h i (λ q. absurd (omega arith)) in let a = low i c in omega arith)
        (λ c. let k = at_last f n h i (let z : i ≡ n = omega arith in z) in omega arith) (cases_lt i n)

    further : ((e : ℕ) → e < n → f e ≢ h) → (i j : ℕ) → i < j → j < suc n → with_last f n h i ≢ with_last f n h j
    further none i j m k q =
        let a : with_last f n h i ≡ f i = before_last f n h i (λ z. absurd (omega arith)) in
        ⊎_elim (λ c. apart i j m c (sym a ∙ q ∙ before_last f n h j (λ z. absurd (omega arith))))
        (λ c. none i (omega arith) (sym a ∙ q ∙ at_last f n h j (let z : j ≡ n = omega arith in z))) (cases_lt j n)
