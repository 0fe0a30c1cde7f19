-- To begin with nothing is in and everything is shown; and a constraint that is not in may have any ends and rows.
use Rattle.std.proofs.Common.{suc, zero, ◌≡◌, ℕ, ◌+◌, ◌*◌, ◌<◌, ◌≤◌, min, true, false, cond, ◌&&◌, ◌||◌, eqb, ltb, List, [], length, get_or, set, replicate, sym, refl, ap, ◌∙◌, subst, ⊎_elim, arith}
use Rattle.std.proofs.lemmas.List.{get_or_past, get_or-replicate, length-replicate, get_or-set_same, get_or-set_other, length-set}
use Rattle.std.proofs.lemmas.Bool.{cases_lt, cases_eq, cases_Bool, both_ways, lt-ltb, le-ltb, and_from}
use Rattle.arcs.specs.Family.{Support, Inside, within_sizes}
use Rattle.bits.specs.Bits.{has_bit}
use Rattle.bits.proofs.Bitwise.{bit_of_zero}
use Rattle.arcs.specs.Standing.{Out, Justified, Timed}
use Rattle.arcs.specs.Changes.{MoreReasons}
use Rattle.arcs.proofs.Keeps.{more_keeps}
use Rattle.domains.specs.declared.Constraints.{Constraints}
use Rattle.domains.specs.declared.Domains.{Domains}
use Rattle.domains.specs.declared.Ends.{Ends}
use Rattle.domains.specs.Model.{no_ends, within, is_present, left_of, right_of, row, pair_at, arcs_of, shown, standing}
use Rattle.domains.specs.Sound.{Shape}
use Rattle.domains.specs.Stands.{Stands, Loaded}
use Rattle.domains.specs.Make.{no_constraints, no_domains}
use Rattle.domains.proofs.Entries.{each_set, zero_at, zero_row}
use Rattle.domains.proofs.Facing.{on_present}

pub none_at : (n p : ℕ) → get_or (replicate n false) p false ≡ false
none_at n p =
    ⊎_elim (λ l. get_or-replicate n p false false l) (λ g. get_or_past (replicate n false) p false (omega (arith, length-replicate n false))) (cases_lt p n)

-- ---- nothing is in, and everything is shown

pub stands_full : (c : Constraints) (d : Domains) → Shape c → ((p : ℕ) → is_present c p ≡ false) → ((i x : ℕ) → shown d i x ≡ within c i x) → Stands c d
stands_full c d shape none all =
    record {
      shape = shape;
      sound =
          record {
            inside = λ i x h. sym (all i x) ∙ h;
            justified = λ i x o. absurd (nothing i x o);
            timed = record { below = λ i x o. absurd (nothing i x o); apart = λ i x j y o _ _. absurd (nothing i x o) };
          };
      consistent = λ i r x on _. absurd (both_ways (is_present c r) (none r) (on_present c i r on));
    }
  where
    nothing : (i x : ℕ) → Out (within c) (standing d) i x → ⊥
    nothing i x o = both_ways (shown d i x) o.gone (all i x ∙ o.inside)

zero_bit : (x : ℕ) → has_bit 0 x ≡ false
zero_bit x = ap (λ n. eqb n 1) (bit_of_zero x)

no_ends_at : (n p : ℕ) → get_or (replicate n no_ends) p no_ends ≡ no_ends
no_ends_at zero p = refl
no_ends_at (suc n) zero = refl
no_ends_at (suc n) (suc p) = no_ends_at n p

pub stands_none : Stands no_constraints no_domains
stands_none =
    stands_full no_constraints no_domains
    (record {
      small = λ i. omega (arith, zero_at 32 i);
      left_low = λ p. omega (arith, ap (λ e. e.left) (no_ends_at 128 p));
      right_low = λ p. omega (arith, ap (λ e. e.right) (no_ends_at 128 p));
      apart = λ p h _. both_ways (is_present no_constraints p) (none_at 128 p) h;
      mirror = λ p x y _ _ _.
          (ap (λ n. has_bit n x) (zero_row 256 64 (2 * p + 1) y) ∙ zero_bit x)
          ∙ sym (ap (λ n. has_bit n y) (zero_row 256 64 (2 * p) x) ∙ zero_bit y);
    })
    (none_at 128)
    (λ i x.
    (ap (λ n. has_bit n x) (zero_at 32 i) ∙ zero_bit x)
    ∙ sym (ap (λ n. ltb x n) (zero_at 32 i) ∙ le-ltb x 0 (omega arith)))

-- ---- an opening

both_small : (x n : ℕ) → n ≤ 64 → (ltb x n && ltb x 64) ≡ ltb x n
both_small x n h =
    ⊎_elim
    (λ l. (and_from (ltb x n) (ltb x 64) (lt-ltb x n l) (lt-ltb x 64 (omega arith))) ∙ sym (lt-ltb x n l))
    (λ g. ap (λ b. b && ltb x 64) (le-ltb x n g) ∙ sym (le-ltb x n g))
    (cases_lt x n)

-- the constraints with these sizes and none in
abbrev pub reopened : Constraints → (sizes : List ℕ) → length sizes ≡ 32 → Constraints
reopened c sizes long =
    record {
      sizes = sizes;
      present = replicate 128 false;
      ends = c.ends;
      rows = c.rows;
      sizes_long = long;
      present_long = length-replicate 128 false;
      ends_long = c.ends_long;
      rows_long = c.rows_long;
      each_row_long = c.each_row_long;
    }

pub sizes_small : (sizes given : List ℕ) → ((i : ℕ) → get_or sizes i 0 ≡ cond (ltb i 32) (min 64 (get_or given i 0)) 0) → (i : ℕ) → get_or sizes i 0 ≤ 64
sizes_small sizes given e i =
    ⊎_elim (λ t. omega (arith, e i ∙ ap (λ b. cond b (min 64 (get_or given i 0)) 0) t)) (λ f. omega (arith, e i ∙ ap (λ b. cond b (min 64 (get_or given i 0)) 0) f))
    (cases_Bool (ltb i 32))

module _ (c : Constraints) (d d' : Domains) (sizes : List ℕ) (stands : Stands c d) (long : length sizes ≡ 32) (small : (i : ℕ) → get_or sizes i 0 ≤ 64) (full : (i x : ℕ) → i < 32 → shown d' i x ≡ (ltb x (get_or sizes i 0) && ltb x 64)) where
  pub all_shown : (i x : ℕ) → shown d' i x ≡ within (reopened c sizes long) i x
  all_shown i x =
      ⊎_elim (λ l. full i x l ∙ both_small x (get_or sizes i 0) (small i))
      (λ g.
      (ap (λ n. has_bit n x) (get_or_past d'.sets i 0 (omega (arith, d'.sets_long))) ∙ zero_bit x)
      ∙ sym (ap (λ n. ltb x n) (get_or_past sizes i 0 (omega arith)) ∙ le-ltb x 0 (omega arith)))
      (cases_lt i 32)

  pub stands_open : Stands (reopened c sizes long) d'
  stands_open =
      stands_full (reopened c sizes long) d'
      (record {
        small = small;
        left_low = stands.shape.left_low;
        right_low = stands.shape.right_low;
        apart = λ p h _. both_ways (is_present (reopened c sizes long) p) (none_at 128 p) h;
        mirror = stands.shape.mirror;
      })
      (none_at 128)
      all_shown

-- ---- a constraint that is not in is loaded

module _ (c c' : Constraints) (d : Domains) (p left right : ℕ) (rows : List ℕ) (absent : is_present c p ≡ false) (l : Loaded c c' p left right rows) where
  same_present : (r : ℕ) → is_present c' r ≡ is_present c r
  same_present r = ap (λ b. get_or b r false) l.present

  -- what is in is another one
  other : (i r : ℕ) → (arcs_of c).on i r ≡ true → r ≡ p → ⊥
  other i r on e = both_ways (is_present c r) (ap (is_present c) e ∙ absent) (on_present c i r on)

  same_on : (i r : ℕ) → (r ≡ p → ⊥) → (arcs_of c').on i r ≡ (arcs_of c).on i r
  same_on i r ne =
      ap (λ b. ltb r 128 && (b && (eqb (left_of c' r) i || eqb (right_of c' r) i))) (same_present r)
      ∙ ap (λ k. ltb r 128 && (is_present c r && (eqb k i || eqb (right_of c' r) i))) (l.left_others r ne)
      ∙ ap (λ k. ltb r 128 && (is_present c r && (eqb (left_of c r) i || eqb k i))) (l.right_others r ne)

  same_far : (i r : ℕ) → (r ≡ p → ⊥) → (arcs_of c').far i r ≡ (arcs_of c).far i r
  same_far i r ne =
      ap (λ k. cond (eqb k i) (right_of c' r) k) (l.left_others r ne) ∙ ap (λ k. cond (eqb (left_of c r) i) k (left_of c r)) (l.right_others r ne)

  same_fits : (i r x y : ℕ) → (r ≡ p → ⊥) → (arcs_of c').fits i r x y ≡ (arcs_of c).fits i r x y
  same_fits i r x y ne =
      ap (λ k. cond (eqb k i) (pair_at c' r x y) (pair_at c' r y x)) (l.left_others r ne)
      ∙ ap (λ b. cond (eqb (left_of c r) i) b (pair_at c' r y x)) (l.pair_others r x y ne)
      ∙ ap (λ b. cond (eqb (left_of c r) i) (pair_at c r x y) b) (l.pair_others r y x ne)

  kept : MoreReasons (arcs_of c) (arcs_of c')
  kept i r on =
      let ne : r ≡ p → ⊥ = other i r on in
      record { on = same_on i r ne ∙ on; far = same_far i r ne; fits = λ x y. same_fits i r x y ne }

  pub stands_load : Shape c' → Stands c d → Stands c' d
  stands_load shape s =
      record {
        shape = shape;
        sound =
            record {
              inside = subst (λ z. Inside (within_sizes z) (shown d)) (sym l.sizes) s.sound.inside;
              justified =
                  subst (λ z. Justified (arcs_of c') (within_sizes z) (standing d)) (sym l.sizes)
                  (more_keeps (arcs_of c) (arcs_of c') (within c) (standing d) kept s.sound.justified);
              timed = subst (λ z. Timed (within_sizes z) (standing d) d.clock) (sym l.sizes) s.sound.timed;
            };
        consistent = consistent;
      }
    where
      consistent : (i r x : ℕ) → (arcs_of c').on i r ≡ true → shown d i x ≡ true → Support (arcs_of c') (shown d) i r x
      consistent i r x on h =
          let ne : r ≡ p → ⊥ = λ e. both_ways (is_present c' r) (ap (is_present c') e ∙ same_present p ∙ absent) (on_present c' i r on) in
          let t : Support (arcs_of c) (shown d) i r x = s.consistent i r x (sym (same_on i r ne) ∙ on) h in
          record {
            value = t.value;
            shown = ap (λ j. shown d j t.value) (same_far i r ne) ∙ t.shown;
            beside = same_fits i r x t.value ne ∙ t.beside;
          }

-- ---- the rows of a loaded constraint

module _ (c : Constraints) (p left right : ℕ) (rows turned : List ℕ) (low : p < 128) (shape : Shape c) (full : length rows ≡ 64) (full_turned : length turned ≡ 64) where
  abbrev these : Ends
  these = record { left = left; right = right }

  -- the rows with those of p, on its left side and then on its right one
  abbrev half : List (List ℕ)
  half = set c.rows (2 * p) rows

  abbrev new : List (List ℕ)
  new = set half (2 * p + 1) turned

  -- the constraints with these ends and rows of p
  abbrev pub reloaded : Constraints
  reloaded =
      record {
        sizes = c.sizes;
        present = c.present;
        ends = set c.ends p these;
        rows = new;
        sizes_long = c.sizes_long;
        present_long = c.present_long;
        ends_long = length-set c.ends p these ∙ c.ends_long;
        rows_long = length-set half (2 * p + 1) turned ∙ length-set c.rows (2 * p) rows ∙ c.rows_long;
        each_row_long = each_set half (2 * p + 1) turned 256 64 (length-set c.rows (2 * p) rows ∙ c.rows_long) full_turned
            (each_set c.rows (2 * p) rows 256 64 c.rows_long full c.each_row_long);
      }

  module _ (turn : (x y : ℕ) → x < 64 → y < 64 → has_bit (get_or turned y 0) x ≡ has_bit (get_or rows x 0) y) where
    left_side : get_or new (2 * p) [] ≡ rows
    left_side =
        get_or-set_other half (2 * p + 1) (2 * p) turned [] (λ e. omega arith)
        ∙ get_or-set_same c.rows (2 * p) rows [] (omega (arith, c.rows_long))

    right_side : get_or new (2 * p + 1) [] ≡ turned
    right_side = get_or-set_same half (2 * p + 1) turned [] (omega (arith, length-set c.rows (2 * p) rows, c.rows_long))

    side_other : (s : ℕ) → (s ≡ 2 * p → ⊥) → (s ≡ 2 * p + 1 → ⊥) → get_or new s [] ≡ get_or c.rows s []
    side_other s ne ne' = get_or-set_other half (2 * p + 1) s turned [] ne' ∙ get_or-set_other c.rows (2 * p) s rows [] ne

    pair_here : (x y : ℕ) → x < 64 → pair_at reloaded p x y ≡ has_bit (get_or rows x 0) y
    unfolding pair_at
    pair_here x y h = ap (λ b. b && has_bit (row reloaded (2 * p) x) y) (lt-ltb x 64 h) ∙ ap (λ r. has_bit (get_or r x 0) y) left_side

    pair_other : (r x y : ℕ) → (r ≡ p → ⊥) → pair_at reloaded r x y ≡ pair_at c r x y
    unfolding pair_at
    pair_other r x y ne = ap (λ k. ltb x 64 && has_bit (get_or k x 0) y) (side_other (2 * r) (λ e. ne (omega arith)) (λ e. omega arith))

    mirrored : (r x y : ℕ) → r < 128 → x < 64 → y < 64 → has_bit (row reloaded (2 * r + 1) y) x ≡ has_bit (row reloaded (2 * r) x) y
    mirrored r x y rl xl yl =
        ⊎_elim
        (λ e. subst (λ k. has_bit (row reloaded (2 * k + 1) y) x ≡ has_bit (row reloaded (2 * k) x) y) (sym e)
        (ap (λ k. has_bit (get_or k y 0) x) right_side ∙ turn x y xl yl ∙ ap (λ k. has_bit (get_or k x 0) y) (sym left_side)))
        (λ ne.
        ap (λ k. has_bit (get_or k y 0) x) (side_other (2 * r + 1) (λ e. omega arith) (λ e. ne (omega arith)))
        ∙ shape.mirror r x y rl xl yl
        ∙ ap (λ k. has_bit (get_or k x 0) y) (sym (side_other (2 * r) (λ e. ne (omega arith)) (λ e. omega arith))))
        (cases_eq r p)

    ends_here : get_or (set c.ends p these) p no_ends ≡ these
    ends_here = get_or-set_same c.ends p these no_ends (omega (arith, c.ends_long))

    ends_other : (r : ℕ) → (r ≡ p → ⊥) → get_or (set c.ends p these) r no_ends ≡ get_or c.ends r no_ends
    ends_other r ne = get_or-set_other c.ends p r these no_ends ne

    end_low : (of : Ends → ℕ) → ((r : ℕ) → of (get_or c.ends r no_ends) < 32) → of these < 32 → (r : ℕ) → of (get_or (set c.ends p these) r no_ends) < 32
    end_low of all h r =
        ⊎_elim (λ q. subst (λ e. of e < 32) (sym (ap (λ k. get_or (set c.ends p these) k no_ends) q ∙ ends_here)) h)
        (λ ne. subst (λ e. of e < 32) (sym (ends_other r ne)) (all r)) (cases_eq r p)

    pub load_shape : left < 32 → right < 32 → (left ≡ right → ⊥) → Shape reloaded
    load_shape ll rl apart =
        record {
          small = shape.small;
          left_low = end_low (λ e. e.left) shape.left_low ll;
          right_low = end_low (λ e. e.right) shape.right_low rl;
          apart = λ r h e.
              ⊎_elim
              (λ q. let same = ap (λ k. get_or (set c.ends p these) k no_ends) q ∙ ends_here in apart (sym (ap (λ z. z.left) same) ∙ e ∙ ap (λ z. z.right) same))
              (λ ne. shape.apart r h (sym (ap (λ z. z.left) (ends_other r ne)) ∙ e ∙ ap (λ z. z.right) (ends_other r ne)))
              (cases_eq r p);
          mirror = mirrored;
        }

    pub load_done : Loaded c reloaded p left right rows
    load_done =
        record {
          left_end = ap (λ e. e.left) ends_here;
          right_end = ap (λ e. e.right) ends_here;
          pairs = pair_here;
          left_others = λ r ne. ap (λ e. e.left) (ends_other r ne);
          right_others = λ r ne. ap (λ e. e.right) (ends_other r ne);
          pair_others = pair_other;
          sizes = refl;
          present = refl;
        }
