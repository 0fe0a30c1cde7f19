-- One arc revised, one pass over all arcs, and the end of the passes.
use Rattle.std.proofs.Common.{◌≡◌, ℕ, ◌+◌, ◌^◌, ◌<◌, ◌≤◌, Bool, true, false, not, ◌&&◌, ◌||◌, eqb, ltb, ◌⊎◌, List, length, Some, None, Option, get_or, set, sum, sym, refl, ap, ◌∙◌, subst, inl, inr, ⊎_elim, arith}
use lib.Bits.{bit_and}
use Rattle.std.proofs.lemmas.List.{get_or_past, get_or-set_same, get_or-set_other, set-get_or}
use Rattle.std.proofs.lemmas.List.Sums.{sum_by-set}
use Rattle.std.proofs.lemmas.Bool.{cases_lt, or_parts, and_parts, and_from, and_cases, both_ways, cases_eq, eq-eqb, eqb-true, eqb-false, lt-ltb, ltb-true, not-true, not-false}
use Rattle.arcs.specs.Arcs.{Arcs}
use Rattle.arcs.specs.Family.{Family, Inside, Support, Largest}
use Rattle.arcs.specs.Around.{Around, Lost}
use Rattle.arcs.proofs.Shrink.{shrink, around_largest}
use Rattle.bits.specs.Bits.{has_bit, domains_of}
use Rattle.bits.proofs.Bitwise.{has_mask, has_of_zero, inside_le, has_le, meet, share_positive}
use Rattle.scratch.specs.declared.arc.Arc.{Arc}
use Rattle.scratch.specs.Rows.{is_kept, arc_of, on_at, arc_at, arcs_of_rows}
use Rattle.scratch.specs.Settling.{stays, Revised, Settled, Waits, Swept}

-- ---- one arc

-- what `revise` stores and answers
pub revised_made
    : (arc : Arc) (before : List ℕ) (left : ℕ) → left < 2 ^ 64
    → ((x : ℕ) → has_bit left x ≡ stays arc (get_or before arc.near 0) (get_or before arc.far 0) x)
    → Revised arc before (set before arc.near left) (not (eqb left (get_or before arc.near 0)))
revised_made arc before left fits kept =
    record {
      left = left;
      fits = fits;
      kept = kept;
      is_set = refl;
      same =
          λ e.
          ap (λ d. set before arc.near d) (eqb-true left (get_or before arc.near 0) (not-false (eqb left (get_or before arc.near 0)) e))
          ∙ set-get_or before arc.near 0;
      fewer =
          λ e.
          let ne : left ≡ get_or before arc.near 0 → ⊥ =
          eqb-false left (get_or before arc.near 0) (not-true (eqb left (get_or before arc.near 0)) e)
          in
          let le : left ≤ get_or before arc.near 0 =
          inside_le 64 left (get_or before arc.near 0) fits
          (λ x. has_le left (get_or before arc.near 0) x (λ h. (and_parts _ _ (sym (kept x) ∙ h)).0))
          in
          omega arith;
    }

module _ (ks : List (Option Arc)) (k : ℕ) (before after : List ℕ) (lost : Bool)
    (is_on : on_at ks k ≡ true)
    (within : (arc_at ks k).near < length before)
    (r : Revised (arc_at ks k) before after lost) where
  -- the domain of the near variable after, and the others
  at_near : get_or after (arc_at ks k).near 0 ≡ r.left
  at_near = ap (λ xs. get_or xs (arc_at ks k).near 0) r.is_set ∙ get_or-set_same before (arc_at ks k).near r.left 0 within

  at_other : (i : ℕ) → (i ≡ (arc_at ks k).near → ⊥) → get_or after i 0 ≡ get_or before i 0
  at_other i ne = ap (λ xs. get_or xs i 0) r.is_set ∙ get_or-set_other before (arc_at ks k).near i r.left 0 ne

  -- values at the near variable after are those that stay
  near_stays : (x : ℕ) → domains_of after (arc_at ks k).near x ≡ stays (arc_at ks k) (get_or before (arc_at ks k).near 0) (get_or before (arc_at ks k).far 0) x
  near_stays x = ap (λ d. has_bit d x) at_near ∙ r.kept x

  pub other_same : (i x : ℕ) → (i ≡ (arc_at ks k).near → ⊥) → domains_of after i x ≡ domains_of before i x
  other_same i x ne = ap (λ d. has_bit d x) (at_other i ne)

  smaller : Inside (domains_of before) (domains_of after)
  smaller i x h =
      ⊎_elim
      (λ e. subst (λ j. domains_of before j x ≡ true) (sym e)
      (and_parts _ _ (sym (near_stays x) ∙ subst (λ j. domains_of after j x ≡ true) e h)).0)
      (λ ne. sym (other_same i x ne) ∙ h)
      (cases_eq i (arc_at ks k).near)

  gone : (i x : ℕ) → domains_of before i x ≡ true → domains_of after i x ≡ false → Lost (arcs_of_rows ks) (domains_of before) i x
  gone i x h out = ⊎_elim at_it (λ ne. absurd (both_ways _ out (other_same i x ne ∙ h))) (cases_eq i (arc_at ks k).near)
    where
      at_it : i ≡ (arc_at ks k).near → Lost (arcs_of_rows ks) (domains_of before) i x
      at_it e =
          let no_support : ltb 0 (bit_and (get_or (arc_at ks k).rows x 0) (get_or before (arc_at ks k).far 0)) ≡ false =
          ⊎_elim (λ f. absurd (both_ways _ f (subst (λ j. domains_of before j x ≡ true) e h))) (λ f. f)
          (and_cases _ _ (sym (near_stays x) ∙ subst (λ j. domains_of after j x ≡ false) e out))
          in
          record {
            reason = k;
            on = and_from _ _ is_on (eq-eqb (arc_at ks k).near i (sym e));
            bare =
                λ y shown beside.
                both_ways _ no_support
                (lt-ltb 0 (bit_and (get_or (arc_at ks k).rows x 0) (get_or before (arc_at ks k).far 0))
                (share_positive (get_or (arc_at ks k).rows x 0) (get_or before (arc_at ks k).far 0) y beside shown));
          }

  -- every consistent family stays inside
  pub revised_around : (b : Family) → Around (arcs_of_rows ks) b (domains_of before) → Around (arcs_of_rows ks) b (domains_of after)
  revised_around b h = shrink (arcs_of_rows ks) b (domains_of before) (domains_of after) h smaller gone

  -- a settled reason stays settled if its far variable is not the one revised
  pub settled_stays
      : (i j : ℕ) → ((arc_at ks j).far ≡ (arc_at ks k).near → ⊥) → Settled (arcs_of_rows ks) (domains_of before) i j
      → Settled (arcs_of_rows ks) (domains_of after) i j
  settled_stays i j ne h x shown =
      let s : Support (arcs_of_rows ks) (domains_of before) i j x = h x (smaller i x shown) in
      record { value = s.value; shown = other_same (arc_at ks j).far s.value ne ∙ s.shown; beside = s.beside }

  -- the arc revised is settled then, if the far variable kept its values
  pub revised_settled
      : ((y : ℕ) → domains_of before (arc_at ks k).far y ≡ true → domains_of after (arc_at ks k).far y ≡ true) → (i : ℕ)
      → (arcs_of_rows ks).on i k ≡ true → Settled (arcs_of_rows ks) (domains_of after) i k
  revised_settled keeps i on x shown =
      let e : (arc_at ks k).near ≡ i = eqb-true (arc_at ks k).near i (and_parts _ _ on).1 in
      let row : ℕ = get_or (arc_at ks k).rows x 0 in
      let far : ℕ = get_or before (arc_at ks k).far 0 in
      let s : (y : ℕ) × (has_bit row y ≡ true) × (has_bit far y ≡ true) =
      meet row far (ltb-true 0 (bit_and row far) (and_parts _ _ (sym (near_stays x) ∙ subst (λ j. domains_of after j x ≡ true) (sym e) shown)).1)
      in
      record { value = s.0; shown = keeps s.0 s.2; beside = s.1 }

  -- the sum of the domains does not rise, and falls where a value was lost
  pub revised_no_more : lost ≡ false → sum after ≡ sum before
  revised_no_more e = ap sum (r.same e)

  pub revised_fewer : lost ≡ true → sum after < sum before
  revised_fewer e =
      let s : sum (set before (arc_at ks k).near r.left) + get_or before (arc_at ks k).near 0 ≡ sum before + r.left =
      sum_by-set (λ d. d) before (arc_at ks k).near r.left 0 within
      in
      omega (arith, r.fewer e, ap sum r.is_set)

-- ---- a pass

-- the arc at `upto` is off, or its far variable did not change
pub swept_skip
    : (ks : List (Option Arc)) (stale upto : ℕ) (before after : List ℕ) (next : ℕ) → Swept ks stale upto before after next
    → (on_at ks upto ≡ false) ⊎ (has_bit stale (arc_at ks upto).far ≡ false) → Swept ks stale (upto + 1) before after next
swept_skip ks stale upto before after next s why =
    record {
      around = s.around;
      settled =
          λ waits i k on t fresh.
          s.settled waits i k on (⊎_elim (λ l. ⊎_elim (λ e. inr (at_it i k on e)) (λ ne. inl (omega arith)) (cases_eq k upto)) inr t) fresh;
      no_more = s.no_more;
      fewer = s.fewer;
    }
  where
    at_it : (i k : ℕ) → (arcs_of_rows ks).on i k ≡ true → k ≡ upto → has_bit stale (arc_at ks k).far ≡ false
    at_it i k on e =
        ⊎_elim (λ off. absurd (both_ways _ (subst (λ j. on_at ks j ≡ false) (sym e) off) (and_parts _ _ on).0))
        (λ f. subst (λ j. has_bit stale (arc_at ks j).far ≡ false) (sym e) f) why

-- the arc at `upto` is revised and loses nothing
pub swept_same
    : (ks : List (Option Arc)) (stale upto : ℕ) (before now after : List ℕ) (next : ℕ) (lost : Bool) → Swept ks stale upto before now next
    → on_at ks upto ≡ true → (arc_at ks upto).near < length now → Revised (arc_at ks upto) now after lost → lost ≡ false
    → Swept ks stale (upto + 1) before after next
swept_same ks stale upto before now after next lost s on within r e =
    record {
      around = λ b h. revised_around ks upto now after lost on within r b (s.around b h);
      settled =
          λ waits i k is_on t fresh.
          ⊎_elim
          (λ q. subst (λ j. Settled (arcs_of_rows ks) (domains_of after) i j) (sym q)
          (revised_settled ks upto now after lost on within r (λ y h. ap (λ xs. domains_of xs (arc_at ks upto).far y) (r.same e) ∙ h) i
          (subst (λ j. (arcs_of_rows ks).on i j ≡ true) q is_on)))
          (λ ne. subst (λ xs. Settled (arcs_of_rows ks) (domains_of xs) i k) (sym (r.same e))
          (s.settled waits i k is_on (⊎_elim (λ l. inl (omega arith)) inr t) fresh))
          (cases_eq k upto);
      no_more = omega (arith, s.no_more, revised_no_more ks upto now after lost on within r e);
      fewer = λ h. omega (arith, s.fewer h, revised_no_more ks upto now after lost on within r e);
    }

-- the arc at `upto` is revised and loses values: its near variable is one of the next
pub swept_lost
    : (ks : List (Option Arc)) (stale upto : ℕ) (before now after : List ℕ) (next next' : ℕ) (lost : Bool) → Swept ks stale upto before now next
    → on_at ks upto ≡ true → (arc_at ks upto).near < length now → Revised (arc_at ks upto) now after lost → lost ≡ true
    → (arc_at ks upto).near < 64
    → ((y : ℕ) → has_bit next' y ≡ (has_bit next y || (eqb (arc_at ks upto).near y && ltb (arc_at ks upto).near 64)))
    → Swept ks stale (upto + 1) before after next'
swept_lost ks stale upto before now after next next' lost s on within r e low with_near =
    record {
      around = λ b h. revised_around ks upto now after lost on within r b (s.around b h);
      settled =
          λ waits i k is_on t fresh.
          let ne : (arc_at ks k).far ≡ (arc_at ks upto).near → ⊥ = apart (arc_at ks k).far fresh in
          ⊎_elim
          (λ q. subst (λ j. Settled (arcs_of_rows ks) (domains_of after) i j) (sym q)
          (revised_settled ks upto now after lost on within r
          (λ y h. other_same ks upto now after lost on within r (arc_at ks upto).far y
          (subst (λ j. (arc_at ks j).far ≡ (arc_at ks upto).near → ⊥) q ne) ∙ h)
          i (subst (λ j. (arcs_of_rows ks).on i j ≡ true) q is_on)))
          (λ other. settled_stays ks upto now after lost on within r i k ne
          (s.settled waits i k is_on (⊎_elim (λ l. inl (omega arith)) inr t)
          (or_parts _ _ (sym (with_near (arc_at ks k).far) ∙ fresh)).0))
          (cases_eq k upto);
      no_more = omega (arith, s.no_more, revised_fewer ks upto now after lost on within r e);
      fewer = λ h. omega (arith, s.no_more, revised_fewer ks upto now after lost on within r e);
    }
  where
    apart : (j : ℕ) → has_bit next' j ≡ false → j ≡ (arc_at ks upto).near → ⊥
    apart j fresh q =
        let here : Bool = eqb (arc_at ks upto).near j && ltb (arc_at ks upto).near 64 in
        both_ways here (or_parts (has_bit next j) here (sym (with_near j) ∙ fresh)).1
        (and_from (eqb (arc_at ks upto).near j) (ltb (arc_at ks upto).near 64) (eq-eqb (arc_at ks upto).near j (sym q))
        (lt-ltb (arc_at ks upto).near 64 low))

-- ---- the steps at a place that was read from the list

module _ (ks : List (Option Arc)) (stale k : ℕ) (before now : List ℕ) (next : ℕ) (s : Swept ks stale k before now next) where
  pub step_off : get_or ks k None ≡ None → Swept ks stale (k + 1) before now next
  step_off is = swept_skip ks stale k before now next s (inl (ap is_kept is))

  module _ (arc : Arc) (is : get_or ks k None ≡ Some arc) where
    pub step_fresh : has_bit stale arc.far ≡ false → Swept ks stale (k + 1) before now next
    step_fresh fresh = swept_skip ks stale k before now next s (inr (subst (λ o. has_bit stale (arc_of o).far ≡ false) (sym is) fresh))

    pub step_same
        : (after : List ℕ) → arc.near < length now → Revised arc now after false → Swept ks stale (k + 1) before after next
    step_same after within r =
        swept_same ks stale k before now after next false s (ap is_kept is) (subst (λ o. (arc_of o).near < length now) (sym is) within)
        (subst (λ o. Revised (arc_of o) now after false) (sym is) r) refl

    pub step_lost
        : (after : List ℕ) (next' : ℕ) → arc.near < length now → length now ≤ 64 → Revised arc now after true
        → ((y : ℕ) → has_bit next' y ≡ (has_bit next y || (eqb arc.near y && ltb arc.near 64))) → Swept ks stale (k + 1) before after next'
    step_lost after next' within few r with_near =
        swept_lost ks stale k before now after next next' true s (ap is_kept is) (subst (λ o. (arc_of o).near < length now) (sym is) within)
        (subst (λ o. Revised (arc_of o) now after true) (sym is) r) refl (subst (λ o. (arc_of o).near < 64) (sym is) (omega arith))
        (subst (λ o. (y : ℕ) → has_bit next' y ≡ (has_bit next y || (eqb (arc_of o).near y && ltb (arc_of o).near 64))) (sym is) with_near)

-- a whole pass: each reason whose far variable did not change in it is settled
pub swept_all
    : (ks : List (Option Arc)) (stale : ℕ) (before after : List ℕ) (next : ℕ) → Swept ks stale (length ks) before after next
    → Waits (arcs_of_rows ks) stale (domains_of before) → Waits (arcs_of_rows ks) next (domains_of after)
swept_all ks stale before after next s waits i k on fresh =
    s.settled waits i k on
    (⊎_elim inl
    (λ past. absurd (both_ways _ (ap is_kept (get_or_past ks k None past)) (and_parts _ _ on).0))
    (cases_lt k (length ks))) fresh

-- with every variable stale nothing is said, and with none every reason is settled
pub waits_at_first : (a : Arcs) (f : Family) → ((i k : ℕ) → a.on i k ≡ true → a.far i k < 64) → Waits a 18446744073709551615 f
waits_at_first a f low i k on fresh = absurd (both_ways _ fresh (has_mask 64 18446744073709551615 (a.far i k) refl ∙ lt-ltb (a.far i k) 64 (low i k on)))

pub waits_at_last : (a : Arcs) (b f : Family) → Around a b f → Waits a 0 f → Largest a b f
waits_at_last a b f around waits = around_largest a b f around (λ i k x on shown. waits i k on (has_of_zero (a.far i k)) x shown)
