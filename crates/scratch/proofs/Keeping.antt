-- Constraints kept as arcs.
use Rattle.std.proofs.Common.{◌≡◌, ℕ, zero, suc, ◌+◌, ◌*◌, ◌<◌, ◌≤◌, Bool, true, false, cond, ◌&&◌, ◌||◌, eqb, ltb, List, [], ◌∷◌, ◌++◌, length, get_or, take, set, replicate, Some, None, Option, sym, refl, ap, ◌∙◌, subst, ⊎_elim, arith}
use Rattle.std.proofs.lemmas.List.{get_or-set_same, get_or-set_other, length-set, take_more, take_all}
use Rattle.std.proofs.lemmas.Bool.{both_ways, cases_Bool, cases_eq, eqb-true, eqb-false, eq-eqb, ne_eqb, lt-ltb, ltb-true, or_parts, or_cases, or_left}
use Rattle.std.specs.Option.{is_some}
use Rattle.bits.specs.Bits.{has_bit}
use Rattle.catalog.specs.Meaning.{Meaning, ends_of, allowed}
use Rattle.scratch.specs.declared.arc.Arc.{Arc}
use Rattle.scratch.specs.Rows.{is_kept, on_at}
use Rattle.scratch.specs.Filled.{Holds, Turned, Kept, Free, Filled, Adds}
use Rattle.scratch.specs.Named.{named}

-- a list of empty places
pub none_kept : (n k : ℕ) → on_at (replicate n None) k ≡ false
none_kept zero k = refl
none_kept (suc n) zero = refl
none_kept (suc n) (suc k) = none_kept n k

-- ---- the ends that a catalog answers

ends_cases : (t : Bool) (e f : ℕ × ℕ) → Some e ≡ cond t (Some f) None → (t ≡ true) × (e ≡ f)
ends_cases true e f q = (refl, cc)
ends_cases false e f q = let z : ◌≡◌ {A = ℕ} 0 1 = cc in absurd (omega arith)

pub ends_known : (m : Meaning) (p a b : ℕ) → Some (a, b) ≡ ends_of m p → (p < m.count) × (a ≡ m.left p) × (b ≡ m.right p)
ends_known m p a b e =
    let q : (ltb p m.count ≡ true) × (◌≡◌ {A = ℕ × ℕ} (a, b) (m.left p, m.right p)) = ends_cases (ltb p m.count) (a, b) (m.left p, m.right p) e in
    (ltb-true p m.count q.0, ap (λ (v : ℕ × ℕ). v.0) q.1, ap (λ (v : ℕ × ℕ). v.1) q.1)

-- ---- the places of one constraint, and of another

-- what the places of p hold after both were written
module _ (ks : List (Option Arc)) (p : ℕ) (there back : Option Arc) where
  written : List (Option Arc)
  written = set (set ks (2 * p) there) (2 * p + 1) back

  at_there : length ks ≡ 256 → p < 128 → get_or written (2 * p) None ≡ there
  unfolding written
  at_there len low =
      get_or-set_other (set ks (2 * p) there) (2 * p + 1) (2 * p) back None (omega arith)
      ∙ get_or-set_same ks (2 * p) there None (omega arith)

  at_back : length ks ≡ 256 → p < 128 → get_or written (2 * p + 1) None ≡ back
  unfolding written
  at_back len low = get_or-set_same (set ks (2 * p) there) (2 * p + 1) back None (omega (arith, length-set ks (2 * p) there))

  elsewhere : (k : ℕ) → (k ≡ 2 * p → ⊥) → (k ≡ 2 * p + 1 → ⊥) → get_or written k None ≡ get_or ks k None
  unfolding written
  elsewhere k ne ne' =
      get_or-set_other (set ks (2 * p) there) (2 * p + 1) k back None ne' ∙ get_or-set_other ks (2 * p) k there None ne

  pub kept_put
      : (m : Meaning) (sizes : List ℕ) → length ks ≡ 256 → p < 128 → Holds sizes (m.left p) (m.right p) (allowed m p) there
      → Holds sizes (m.right p) (m.left p) (λ y x. allowed m p x y) back → (chosen : ℕ → Bool) → Filled m sizes chosen ks
      → Filled m sizes (λ q. eqb p q || chosen q) (set (set ks (2 * p) there) (2 * p + 1) back)
  unfolding written
  kept_put m sizes len low holds_there holds_back chosen filled = record {
    kept =
        λ q h.
        ⊎_elim
        (λ e. subst (λ j. Kept m sizes written j) e
        (record {
          there = subst (λ arc. Holds sizes (m.left p) (m.right p) (allowed m p) arc) (sym (at_there len low)) holds_there;
          back = subst (λ arc. Holds sizes (m.right p) (m.left p) (λ y x. allowed m p x y) arc) (sym (at_back len low)) holds_back;
        }))
        (λ ne.
        let k : Kept m sizes ks q = filled.kept q (⊎_elim (λ t. absurd (eqb-false p q (ne_eqb p q ne) (eqb-true p q t))) (λ t. t) (or_cases (eqb p q) (chosen q) h)) in
        record {
          there = subst (λ arc. Holds sizes (m.left q) (m.right q) (allowed m q) arc) (sym (elsewhere (2 * q) (λ e. ne (omega arith)) (λ e. omega arith))) k.there;
          back = subst (λ arc. Holds sizes (m.right q) (m.left q) (λ y x. allowed m q x y) arc) (sym (elsewhere (2 * q + 1) (λ e. omega arith) (λ e. ne (omega arith)))) k.back;
        })
        (cases_eq p q);
    free =
        λ q h.
        let t : (eqb p q ≡ false) × (chosen q ≡ false) = or_parts (eqb p q) (chosen q) h in
        let ne : p ≡ q → ⊥ = eqb-false p q t.0 in
        let f : Free ks q = filled.free q t.1 in
        record {
          there = ap is_kept (elsewhere (2 * q) (λ e. ne (omega arith)) (λ e. omega arith)) ∙ f.there;
          back = ap is_kept (elsewhere (2 * q + 1) (λ e. omega arith) (λ e. ne (omega arith))) ∙ f.back;
        };
  }

-- what the catalog lets stand beside one another, inside the sizes
pub rows_hold
    : (m : Meaning) (sizes : List ℕ) (p : ℕ) (arc : Arc)
    → ((x y : ℕ) → has_bit (get_or arc.rows x 0) y ≡ (ltb x (get_or sizes arc.near 0) && (ltb y (get_or sizes arc.far 0) && allowed m p x y)))
    → Holds sizes arc.near arc.far (allowed m p) (Some arc)
rows_hold m sizes p arc h = record {
  on = refl;
  at_near = refl;
  at_far = refl;
  rows = λ x y lx ly. h x y ∙ rw (lt-ltb x (get_or sizes arc.near 0) lx, lt-ltb y (get_or sizes arc.far 0) ly);
}

-- an arc turned holds the pairs turned
turned_holds
    : (sizes : List ℕ) (a b : ℕ) (fits : ℕ → ℕ → Bool) (there back : Arc) → Holds sizes a b fits (Some there)
    → Turned there back → Holds sizes b a (λ y x. fits x y) (Some back)
turned_holds sizes a b fits there back h t = record {
  on = refl;
  at_near = t.near ∙ h.at_far;
  at_far = t.far ∙ h.at_near;
  rows = λ y x ly lx. t.rows x y ∙ h.rows x y lx ly;
}

-- the two arcs that are written for p
pub put_filled
    : (m : Meaning) (sizes : List ℕ) (ks : List (Option Arc)) (p a b : ℕ) (there back : Arc) → Some (a, b) ≡ ends_of m p
    → p < 128 → length ks ≡ 256 → Holds sizes a b (allowed m p) (Some there) → Turned there back
    → Adds m sizes p ks (set (set ks (2 * p) (Some there)) (2 * p + 1) (Some back))
put_filled m sizes ks p a b there back ends low len ht t =
    let e : (p < m.count) × (a ≡ m.left p) × (b ≡ m.right p) = ends_known m p a b ends in
    let hb : Holds sizes b a (λ y x. allowed m p x y) (Some back) = turned_holds sizes a b (allowed m p) there back ht t in
    kept_put ks p (Some there) (Some back) m sizes len low
    (subst (λ j. Holds sizes j (m.right p) (allowed m p) (Some there)) e.1 (subst (λ j. Holds sizes a j (allowed m p) (Some there)) e.2 ht))
    (subst (λ j. Holds sizes (m.right p) j (λ y x. allowed m p x y) (Some back)) e.1 (subst (λ j. Holds sizes j a (λ y x. allowed m p x y) (Some back)) e.2 hb))

-- ---- one that is kept already, and none at first

-- which constraints are chosen may be said by another test that agrees
pub filled_same
    : (m : Meaning) (sizes : List ℕ) (chosen chosen' : ℕ → Bool) (ks : List (Option Arc)) → ((q : ℕ) → chosen q ≡ chosen' q) → Filled m sizes chosen ks
    → Filled m sizes chosen' ks
filled_same m sizes chosen chosen' ks e filled = record {
  kept = λ q h. filled.kept q (e q ∙ h);
  free = λ q h. filled.free q (e q ∙ h);
}

pub kept_some : (place : Option Arc) → is_some place ≡ true → is_kept place ≡ true
kept_some None h = absurd (both_ways false refl h)
kept_some (Some arc) h = refl

pub filled_again
    : (m : Meaning) (sizes : List ℕ) (ks : List (Option Arc)) (p : ℕ) → on_at ks (2 * p) ≡ true → (chosen : ℕ → Bool)
    → Filled m sizes chosen ks → Filled m sizes (λ q. eqb p q || chosen q) ks
filled_again m sizes ks p on chosen filled = filled_same m sizes chosen (λ q. eqb p q || chosen q) ks same filled
  where
    is_chosen : chosen p ≡ true
    is_chosen = ⊎_elim (λ t. t) (λ f. absurd (both_ways (on_at ks (2 * p)) (filled.free p f).there on)) (cases_Bool (chosen p))

    same : (q : ℕ) → chosen q ≡ (eqb p q || chosen q)
    same q =
        ⊎_elim (λ e. subst (λ j. chosen j ≡ true) e is_chosen ∙ sym (or_left (eqb p q) (chosen q) (eq-eqb p q e)))
        (λ ne. let f : eqb p q ≡ false = ne_eqb p q ne in rw f) (cases_eq p q)

pub filled_none : (m : Meaning) (sizes : List ℕ) (ks : List (Option Arc)) → ((k : ℕ) → on_at ks k ≡ false) → Filled m sizes (named []) ks
filled_none m sizes ks off = record {
  kept = λ q h. absurd (both_ways false refl h);
  free = λ q h. record { there = off (2 * q); back = off (2 * q + 1) };
}

-- ---- one index more of a list

named_push : (ps : List ℕ) (p q : ℕ) → named (ps ++ (p ∷ [])) q ≡ (eqb p q || named ps q)
named_push [] p q = refl
named_push (r ∷ ps) p q = ap (λ b. eqb r q || b) (named_push ps p q) ∙ swapped (eqb r q) (eqb p q) (named ps q)
  where
    swapped : (a b c : Bool) → (a || (b || c)) ≡ (b || (a || c))
    swapped true true c = refl
    swapped true false c = refl
    swapped false b c = refl

pub filled_more
    : (m : Meaning) (sizes : List ℕ) (ks : List (Option Arc)) (ps : List ℕ) (i : ℕ) → i < length ps
    → Filled m sizes (λ q. eqb (get_or ps i 0) q || named (take i ps) q) ks → Filled m sizes (named (take (i + 1) ps)) ks
filled_more m sizes ks ps i h filled =
    filled_same m sizes (λ q. eqb (get_or ps i 0) q || named (take i ps) q) (named (take (i + 1) ps)) ks
    (λ q. sym (ap (λ xs. named xs q) (take_more ps i 0 h) ∙ named_push (take i ps) (get_or ps i 0) q)) filled

pub filled_all
    : (m : Meaning) (sizes : List ℕ) (ks : List (Option Arc)) (ps : List ℕ) (i : ℕ) → length ps ≤ i → Filled m sizes (named (take i ps)) ks
    → Filled m sizes (named ps) ks
filled_all m sizes ks ps i h filled = subst (λ xs. Filled m sizes (named xs) ks) (take_all i ps h) filled
