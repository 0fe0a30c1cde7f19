-- The arcs that are kept ask what the constraints named ask.
use Rattle.std.proofs.Common.{◌≡◌, ℕ, ◌+◌, ◌*◌, ◌/◌, ◌<◌, Bool, true, ◌&&◌, ◌||◌, eqb, ltb, ◌⊎◌, List, ◌++◌, length, get_or, take, drop, None, Option, sym, ◌∙◌, subst, inl, inr, ⊎_elim, arith}
use Rattle.std.proofs.lemmas.List.{take_at}
use Rattle.std.proofs.lemmas.Slice.{drop-append-drop}
use Rattle.std.proofs.lemmas.Bool.{and_parts, and_from, both_ways, cases_Bool, cases_eq, cond-true, cond-false, eq-eqb, eqb-true, ne_eqb, lt-ltb, ltb-true, or_cases, or_left, or_right}
use Rattle.arcs.specs.Arcs.{Arcs}
use Rattle.arcs.specs.Family.{Family, Largest, within_sizes}
use Rattle.arcs.proofs.Unique.{one_largest}
use Rattle.arcs.proofs.Covering.{Asked, Covers, covers_largest, same_bound}
use Rattle.bits.specs.Bits.{domains_of}
use Rattle.catalog.specs.Constraints.{arcs_of}
use Rattle.catalog.specs.Meaning.{Meaning, Lawful, allowed}
use Rattle.scratch.specs.declared.arc.Arc.{Arc}
use Rattle.scratch.specs.Filled.{Holds, Filled}
use Rattle.scratch.specs.Named.{named}
use Rattle.scratch.specs.Refused.{indices_refusal}
use Rattle.scratch.specs.Rows.{on_at, arc_at, arcs_of_rows}
use Rattle.scratch.specs.Settling.{Placed}
use Rattle.scratch.specs.Written.{Written}
use Rattle.scratch.proofs.Accepting.{Between, named_between}

-- what a reason of `a` asks is asked by an arc that holds it
asked_by_arc
    : (a : Arcs) (sizes : List ℕ) (ks : List (Option Arc)) (i r k near far : ℕ) (fits : ℕ → ℕ → Bool) → Holds sizes near far fits (get_or ks k None) → near ≡ i
    → a.far i r ≡ far → ((x y : ℕ) → a.fits i r x y ≡ fits x y) → Asked (within_sizes sizes) a (arcs_of_rows ks) i r
asked_by_arc a sizes ks i r k near far fits holds e e' f = record {
  reason = k;
  on = and_from _ _ holds.on (eq-eqb (arc_at ks k).near i (holds.at_near ∙ e));
  far = holds.at_far ∙ sym e';
  fits =
      λ x y bx by h.
      f x y
      ∙ sym
      (holds.rows x y (ltb-true x (get_or sizes near 0) (subst (λ j. within_sizes sizes j x ≡ true) (sym e) bx))
      (ltb-true y (get_or sizes far 0) (subst (λ j. within_sizes sizes j y ≡ true) e' by)))
      ∙ h;
}

-- and what an arc asks is asked by the reason that it holds
asked_of_arc
    : (a : Arcs) (sizes : List ℕ) (ks : List (Option Arc)) (i r k near far : ℕ) (fits : ℕ → ℕ → Bool) → Holds sizes near far fits (get_or ks k None) → near ≡ i
    → a.on i r ≡ true → a.far i r ≡ far → ((x y : ℕ) → a.fits i r x y ≡ fits x y) → Asked (within_sizes sizes) (arcs_of_rows ks) a i k
asked_of_arc a sizes ks i r k near far fits holds e on e' f = record {
  reason = r;
  on = on;
  far = e' ∙ sym holds.at_far;
  fits =
      λ x y bx by h.
      holds.rows x y (ltb-true x (get_or sizes near 0) (subst (λ j. within_sizes sizes j x ≡ true) (sym e) bx))
      (ltb-true y (get_or sizes far 0) (subst (λ j. within_sizes sizes j y ≡ true) holds.at_far by))
      ∙ sym (f x y) ∙ h;
}

module _ (m : Meaning) (lawful : Lawful m) (sizes ps : List ℕ) (ks : List (Option Arc))
    (accepted : indices_refusal m (length sizes) ps ≡ None) (filled : Filled m sizes (named ps) ks) where
  There : ℕ → ℕ → Type 0
  There k p = Holds sizes (m.left p) (m.right p) (allowed m p) (get_or ks k None)

  Back : ℕ → ℕ → Type 0
  Back k p = Holds sizes (m.right p) (m.left p) (λ y x. allowed m p x y) (get_or ks k None)

  between : (p : ℕ) → named ps p ≡ true → Between m (length sizes) p
  between = named_between m (length sizes) ps accepted

  -- an arc that is on is one way of a constraint that is named
  one_way : (k : ℕ) → on_at ks k ≡ true → (p : ℕ) × (named ps p ≡ true) × (There k p ⊎ Back k p)
  unfolding There Back
  one_way k on =
      ⊎_elim
      (λ e.
      let on' : on_at ks (2 * (k / 2)) ≡ true = subst (λ j. on_at ks j ≡ true) e on in
      let n : named ps (k / 2) ≡ true = ⊎_elim (λ t. t) (λ f. absurd (both_ways _ (filled.free (k / 2) f).there on')) (cases_Bool (named ps (k / 2))) in
      (k / 2, n, inl (subst (λ j. Holds sizes (m.left (k / 2)) (m.right (k / 2)) (allowed m (k / 2)) (get_or ks j None)) (sym e) (filled.kept (k / 2) n).there)))
      (λ ne.
      let e : k ≡ 2 * (k / 2) + 1 = omega arith in
      let on' : on_at ks (2 * (k / 2) + 1) ≡ true = subst (λ j. on_at ks j ≡ true) e on in
      let n : named ps (k / 2) ≡ true = ⊎_elim (λ t. t) (λ f. absurd (both_ways _ (filled.free (k / 2) f).back on')) (cases_Bool (named ps (k / 2))) in
      (k / 2, n, inr (subst (λ j. Holds sizes (m.right (k / 2)) (m.left (k / 2)) (λ y x. allowed m (k / 2) x y) (get_or ks j None)) (sym e) (filled.kept (k / 2) n).back)))
      (cases_eq k (2 * (k / 2)))

  -- each arc that is on lies between two of the variables
  pub kept_placed : Placed ks (length sizes)
  unfolding There Back
  kept_placed k on =
      let w = one_way k on in
      let b = between w.0 w.1 in
      ⊎_elim (λ h. (subst (λ j. j < length sizes) (sym h.at_near) b.left, subst (λ j. j < length sizes) (sym h.at_far) b.right))
      (λ h. (subst (λ j. j < length sizes) (sym h.at_near) b.right, subst (λ j. j < length sizes) (sym h.at_far) b.left))
      w.2

  -- the far variable and the pairs of a constraint seen from its left end, and from its right end
  left_far : (i p : ℕ) → m.left p ≡ i → (arcs_of m (named ps)).far i p ≡ m.right p
  left_far i p e = cond-true (eqb (m.left p) i) (m.right p) (m.left p) (eq-eqb (m.left p) i e)

  left_fits : (i p : ℕ) → m.left p ≡ i → (x y : ℕ) → (arcs_of m (named ps)).fits i p x y ≡ allowed m p x y
  left_fits i p e x y = cond-true (eqb (m.left p) i) (allowed m p x y) (allowed m p y x) (eq-eqb (m.left p) i e)

  right_far : (i p : ℕ) → (m.left p ≡ i → ⊥) → (arcs_of m (named ps)).far i p ≡ m.left p
  right_far i p ne = cond-false (eqb (m.left p) i) (m.right p) (m.left p) (ne_eqb (m.left p) i ne)

  right_fits : (i p : ℕ) → (m.left p ≡ i → ⊥) → (x y : ℕ) → (arcs_of m (named ps)).fits i p x y ≡ allowed m p y x
  right_fits i p ne x y = cond-false (eqb (m.left p) i) (allowed m p x y) (allowed m p y x) (ne_eqb (m.left p) i ne)

  covers_there : Covers (within_sizes sizes) (arcs_of m (named ps)) (arcs_of_rows ks)
  covers_there i p on =
      let t = and_parts (named ps p) (ltb p m.count && (eqb (m.left p) i || eqb (m.right p) i)) on in
      let u = and_parts (ltb p m.count) (eqb (m.left p) i || eqb (m.right p) i) t.1 in
      let kept = filled.kept p t.0 in
      ⊎_elim
      (λ e. asked_by_arc (arcs_of m (named ps)) sizes ks i p (2 * p) (m.left p) (m.right p) (allowed m p) kept.there e (left_far i p e) (left_fits i p e))
      (λ ne. asked_by_arc (arcs_of m (named ps)) sizes ks i p (2 * p + 1) (m.right p) (m.left p) (λ y x. allowed m p x y) kept.back
      (eqb-true (m.right p) i (⊎_elim (λ l. absurd (ne (eqb-true (m.left p) i l))) (λ r. r) (or_cases (eqb (m.left p) i) (eqb (m.right p) i) u.1)))
      (right_far i p ne) (right_fits i p ne))
      (cases_eq (m.left p) i)

  covers_back : Covers (within_sizes sizes) (arcs_of_rows ks) (arcs_of m (named ps))
  unfolding There Back
  covers_back i k on =
      let t = and_parts (on_at ks k) (eqb (arc_at ks k).near i) on in
      let near : (arc_at ks k).near ≡ i = eqb-true (arc_at ks k).near i t.1 in
      let w = one_way k t.0 in
      let p : ℕ = w.0 in
      let b = between p w.1 in
      let named_on : (eqb (m.left p) i || eqb (m.right p) i) ≡ true → (arcs_of m (named ps)).on i p ≡ true =
      λ e. and_from (named ps p) (ltb p m.count && (eqb (m.left p) i || eqb (m.right p) i)) w.1
      (and_from (ltb p m.count) (eqb (m.left p) i || eqb (m.right p) i) (lt-ltb p m.count b.is_one) e)
      in
      ⊎_elim
      (λ h.
      let e : m.left p ≡ i = sym h.at_near ∙ near in
      asked_of_arc (arcs_of m (named ps)) sizes ks i p k (m.left p) (m.right p) (allowed m p) h e
      (named_on (or_left (eqb (m.left p) i) (eqb (m.right p) i) (eq-eqb (m.left p) i e))) (left_far i p e) (left_fits i p e))
      (λ h.
      let e : m.right p ≡ i = sym h.at_near ∙ near in
      let ne : m.left p ≡ i → ⊥ = λ q. lawful.apart p b.is_one (q ∙ sym e) in
      asked_of_arc (arcs_of m (named ps)) sizes ks i p k (m.right p) (m.left p) (λ y x. allowed m p x y) h e
      (named_on (or_right (eqb (m.left p) i) (eqb (m.right p) i) (eq-eqb (m.right p) i e))) (right_far i p ne) (right_fits i p ne))
      w.2

  -- so the largest family is the same
  pub kept_largest
      : (b f : Family) → ((i x : ℕ) → b i x ≡ within_sizes sizes i x) → Largest (arcs_of_rows ks) b f
      → Largest (arcs_of m (named ps)) (within_sizes sizes) f
  kept_largest b f e l =
      covers_largest (within_sizes sizes) (arcs_of_rows ks) (arcs_of m (named ps)) f covers_back covers_there
      (same_bound (arcs_of_rows ks) b (within_sizes sizes) f e l)

  -- what is written: the domains in front, and the rest as it was
  pub written
      : (k : ℕ) (before ds₀ ds : List ℕ) → k ≡ length sizes → length ds ≡ length sizes
      → ((i x : ℕ) → domains_of ds₀ i x ≡ within_sizes sizes i x) → Largest (arcs_of_rows ks) (domains_of ds₀) (domains_of ds)
      → Written m sizes ps before (ds ++ drop k before)
  written k before ds₀ ds e len start l =
      let front : take (length sizes) (ds ++ drop k before) ≡ ds = take_at ds (drop k before) (length sizes) len in
      let largest : Largest (arcs_of m (named ps)) (within_sizes sizes) (domains_of (take (length sizes) (ds ++ drop k before))) =
      subst (λ xs. Largest (arcs_of m (named ps)) (within_sizes sizes) (domains_of xs)) (sym front) (kept_largest (domains_of ds₀) (domains_of ds) start l)
      in
      record {
        largest = largest;
        only =
            λ f other.
            one_largest (arcs_of m (named ps)) (within_sizes sizes) f (domains_of (take (length sizes) (ds ++ drop k before))) other largest;
        rest = drop-append-drop k before ds (length sizes) (omega arith) (len ∙ sym e);
      }
