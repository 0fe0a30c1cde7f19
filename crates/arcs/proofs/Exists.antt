-- A largest family exists: while some value is without support, put it out; there are only finitely many.
use Rattle.std.proofs.Common.{◌≡◌, ℕ, zero, suc, ◌+◌, ◌<◌, ◌≤◌, Bool, true, false, cond, not, ◌&&◌, eqb, ◌⊎◌, sym, refl, subst, inl, inr, ⊎_elim, arith}
use Rattle.std.proofs.lemmas.Bool.{not-false, cases_Bool, cases_eq, and_parts, and_cases, both_ways, eq-eqb, eqb-true}
use Rattle.arcs.specs.Arcs.{Arcs}
use Rattle.arcs.specs.Family.{Family, Inside, Support, Consistent, Largest}
use Rattle.arcs.specs.Around.{Around, Bare, Lost}
use Rattle.arcs.specs.Theorems.{Finite, SomeLargest}
use Rattle.arcs.proofs.Shrink.{around_bound, shrink, around_largest}

-- ---- bounded search

-- of the numbers below n, all are P or some one is Q
below_cases : (P Q : ℕ → Type 0) → ((k : ℕ) → P k ⊎ Q k) → (n : ℕ) → ((k : ℕ) → k < n → P k) ⊎ ((k : ℕ) × Q k)
below_cases P Q each zero = inl (λ k h. absurd (omega arith))
below_cases P Q each (suc n) =
    ⊎_elim
    (λ all.
    ⊎_elim
    (λ p. inl (λ k h. ⊎_elim (λ e. subst P (sym e) p) (λ ne. all k (omega arith)) (cases_eq k n)))
    (λ q. inr (n, q)) (each n))
    (λ some. inr some)
    (below_cases P Q each n)

-- ---- how many values a family has, of the values below k of the variables below n

total : (ℕ → ℕ) → ℕ → ℕ
total f zero = 0
total f (suc n) = f n + total f n

total_le : (f g : ℕ → ℕ) → ((k : ℕ) → f k ≤ g k) → (n : ℕ) → total f n ≤ total g n
unfolding total
total_le f g h zero = omega arith
total_le f g h (suc n) = omega (arith, h n, total_le f g h n)

total_lt : (f g : ℕ → ℕ) → ((k : ℕ) → f k ≤ g k) → (j : ℕ) → f j < g j → (n : ℕ) → j < n → total f n < total g n
unfolding total
total_lt f g h j s zero l = absurd (omega arith)
total_lt f g h j s (suc n) l =
    ⊎_elim (λ e. let t : f n < g n = subst (λ m. f m < g m) e s in omega (arith, total_le f g h n))
    (λ ne. omega (arith, h n, total_lt f g h j s n (omega arith))) (cases_eq j n)

one : Bool → ℕ
one b = cond b 1 0

values : Family → ℕ → ℕ → ℕ
values f n k = total (λ i. total (λ x. one (f i x)) k) n

one_le : (s t : Bool) → (s ≡ true → t ≡ true) → one s ≤ one t
unfolding one
one_le true t h = subst (λ b. 1 ≤ cond b 1 0) (sym (h refl)) (omega arith)
one_le false t h = omega arith

-- ---- one value put out

-- f without the value x of i
without : Family → ℕ → ℕ → Family
without f i x j y = f j y && not (eqb i j && eqb x y)

without_inside : (f : Family) (i x : ℕ) → Inside f (without f i x)
unfolding without
without_inside f i x j y h = (and_parts (f j y) (not (eqb i j && eqb x y)) h).0

without_out : (f : Family) (i x j y : ℕ) → f j y ≡ true → without f i x j y ≡ false → (i ≡ j) × (x ≡ y)
unfolding without
without_out f i x j y h out =
    let n : not (eqb i j && eqb x y) ≡ false =
    ⊎_elim (λ e. absurd (both_ways (f j y) e h)) (λ e. e) (and_cases (f j y) (not (eqb i j && eqb x y)) out)
    in
    let p : (eqb i j ≡ true) × (eqb x y ≡ true) = and_parts (eqb i j) (eqb x y) (not-false (eqb i j && eqb x y) n) in
    (eqb-true i j p.0, eqb-true x y p.1)

without_gone : (f : Family) (i x : ℕ) → without f i x i x ≡ false
unfolding without
without_gone f i x = rw (eq-eqb i i refl, eq-eqb x x refl) (and_no (f i x))
  where
    and_no : (b : Bool) → (b && false) ≡ false
    and_no true = refl
    and_no false = refl

without_fewer : (f : Family) (n k i x : ℕ) → i < n → x < k → f i x ≡ true → values (without f i x) n k < values f n k
unfolding values one
without_fewer f n k i x hi hx h =
    total_lt (λ j. total (λ y. one (without f i x j y)) k) (λ j. total (λ y. one (f j y)) k)
    (λ j. total_le (λ y. one (without f i x j y)) (λ y. one (f j y)) (λ y. one_le (without f i x j y) (f j y) (without_inside f i x j y)) k)
    i
    (total_lt (λ y. one (without f i x i y)) (λ y. one (f i y)) (λ y. one_le (without f i x i y) (f i y) (without_inside f i x i y)) x
    (rw (without_gone f i x, h) (omega arith)) k hx)
    n hi

-- ---- is some value without support

module _ (a : Arcs) (b : Family) (finite : Finite a b) (f : Family) (inside : Inside b f) where
  -- x of i under r: whatever r asks is met, or x is in and without support
  Met : ℕ → ℕ → ℕ → Type 0
  Met i r x = a.on i r ≡ true → f i x ≡ true → Support a f i r x

  Unmet : ℕ → ℕ → Type 0
  Unmet i x = (f i x ≡ true) × Lost a f i x

  supported : (i r x : ℕ) → Support a f i r x ⊎ Bare a f i r x
  supported i r x =
      ⊎_elim
      (λ none. inr (λ y shown beside. both_ways (a.fits i r x y) (none y (finite.low_value (a.far i r) y (inside (a.far i r) y shown)) shown) beside))
      (λ some. inl (record { value = some.0; shown = some.1.0; beside = some.1.1 }))
      (below_cases (λ y. f (a.far i r) y ≡ true → a.fits i r x y ≡ false) (λ y. (f (a.far i r) y ≡ true) × (a.fits i r x y ≡ true))
      (λ y.
      ⊎_elim
      (λ s. ⊎_elim (λ t. inr (s, t)) (λ t. inl (λ h. t)) (cases_Bool (a.fits i r x y)))
      (λ s. inl (λ h. absurd (both_ways (f (a.far i r) y) s h)))
      (cases_Bool (f (a.far i r) y)))
      finite.values)

  met : (i r x : ℕ) → Met i r x ⊎ Unmet i x
  unfolding Met Unmet
  met i r x =
      ⊎_elim
      (λ on.
      ⊎_elim
      (λ h. ⊎_elim (λ s. inl (λ _ _. s)) (λ bare. inr (h, record { reason = r; on = on; bare = bare })) (supported i r x))
      (λ h. inl (λ _ t. absurd (both_ways (f i x) h t)))
      (cases_Bool (f i x)))
      (λ on. inl (λ t _. absurd (both_ways (a.on i r) on t)))
      (cases_Bool (a.on i r))

  -- f is consistent, or has a value without support
  judged : Consistent a f ⊎ ((i : ℕ) × ((x : ℕ) × Unmet i x))
  unfolding Met
  judged =
      ⊎_elim
      (λ all. inl (λ i r x on h.
      let hi : i < finite.variables = finite.low_variable i x (inside i x h) in
      all i hi r (finite.low_reason i r hi on) x (finite.low_value i x (inside i x h)) on h))
      (λ some. inr (some.0, some.1.1))
      (below_cases (λ i. (r : ℕ) → r < finite.reasons → (x : ℕ) → x < finite.values → Met i r x) (λ i. (r : ℕ) × ((x : ℕ) × Unmet i x))
      (λ i.
      below_cases (λ r. (x : ℕ) → x < finite.values → Met i r x) (λ r. (x : ℕ) × Unmet i x)
      (λ r. below_cases (λ x. Met i r x) (λ x. Unmet i x) (λ x. met i r x) finite.values)
      finite.reasons)
      finite.variables)

-- ---- put out values until none is without support

-- one value without support put out: fewer values, and still around every consistent family
smaller
    : (a : Arcs) (b : Family) (finite : Finite a b) (f : Family) → Around a b f → (i x : ℕ) → f i x ≡ true → Lost a f i x
    → Around a b (without f i x) × (values (without f i x) finite.variables finite.values < values f finite.variables finite.values)
smaller a b finite f around i x h lost = (
  shrink a b f (without f i x) around (without_inside f i x)
      (λ j y shown out.
      let e : (i ≡ j) × (x ≡ y) = without_out f i x j y shown out in
      subst (λ k. Lost a f k y) e.0 (subst (λ k. Lost a f i k) e.1 lost)),
  without_fewer f finite.variables finite.values i x (finite.low_variable i x (around.inside i x h))
      (finite.low_value i x (around.inside i x h)) h,
)

settled
    : (a : Arcs) (b : Family) (finite : Finite a b) (m : ℕ) (f : Family) → values f finite.variables finite.values ≤ m → Around a b f
    → (g : Family) × Largest a b g
unfolding Unmet
settled a b finite zero f few around =
    ⊎_elim (λ c. (f, around_largest a b f around c))
    (λ u. let s = smaller a b finite f around u.0 u.1.0 u.1.1.0 u.1.1.1 in absurd (omega (arith, s.1)))
    (judged a b finite f around.inside)
settled a b finite (suc m) f few around =
    ⊎_elim (λ c. (f, around_largest a b f around c))
    (λ u.
    let s = smaller a b finite f around u.0 u.1.0 u.1.1.0 u.1.1.1 in
    settled a b finite m (without f u.0 u.1.0) (omega (arith, s.1)) s.0)
    (judged a b finite f around.inside)

pub some_largest : SomeLargest
some_largest a b finite =
    settled a b finite (values b finite.variables finite.values) b (omega arith) (around_bound a b)
