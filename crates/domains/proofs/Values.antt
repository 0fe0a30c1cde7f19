-- One value goes out or comes back: what is written into the plain data is what the words say.
use Rattle.std.proofs.Common.{◌≡◌, ℕ, ◌+◌, ◌*◌, ◌%◌, ◌^◌, ◌<◌, Bool, true, false, not, ◌&&◌, ◌||◌, eqb, List, [], length, get_or, set, sym, refl, ap, ◌∙◌, ⊎_elim, arith}
use lib.Bits.{bit_xor, bit_or, xor_lt, or_lt}
use lib.Count.{ones}
use lib.Pow.{pow-lt}
use Rattle.std.proofs.lemmas.Nat.{one_shl}
use Rattle.std.proofs.lemmas.List.{get_or-set_same, get_or-set_other, length-set}
use Rattle.std.proofs.lemmas.Bool.{cases_eq, eq-eqb, ne_eqb, eqb-true, eqb-false}
use Rattle.bits.specs.Bits.{bit_at, has_bit, domains_of}
use Rattle.bits.proofs.Bitwise.{bit_low}
use Rattle.bits.proofs.Edits.{has_cleared, has_added, ones_cleared, ones_added}
use Rattle.arcs.specs.Changes.{PutOut, PutBack}
use Rattle.domains.specs.declared.Domains.{Domains}
use Rattle.domains.specs.declared.Justification.{Justification}
use Rattle.domains.specs.Model.{entry, shown, standing, total}
use Rattle.domains.proofs.Entries.{each_set, entry_same, entry_other, total-set}

and_no : (b : Bool) → (b && not true) ≡ false
and_no true = refl
and_no false = refl

and_yes : (b : Bool) → (b && not false) ≡ b
and_yes true = refl
and_yes false = refl

or_yes : (b : Bool) → (b || true) ≡ true
or_yes true = refl
or_yes false = refl

or_no : (b : Bool) → (b || false) ≡ b
or_no true = refl
or_no false = refl

-- bits of one set among others
module _ (ds : List ℕ) (i v : ℕ) (l : i < length ds) where
  pub set_here : (y : ℕ) → domains_of (set ds i v) i y ≡ has_bit v y
  set_here y = ap (λ n. has_bit n y) (get_or-set_same ds i v 0 l)

  pub set_there : (j y : ℕ) → (j ≡ i → ⊥) → domains_of (set ds i v) j y ≡ domains_of ds j y
  set_there j y ne = ap (λ n. has_bit n y) (get_or-set_other ds i j v 0 ne)

bit_one : (d x : ℕ) → has_bit d x ≡ true → bit_at d x ≡ 1
bit_one d x h = eqb-true (bit_at d x) 1 h

bit_none : (d x : ℕ) → has_bit d x ≡ false → bit_at d x ≡ 0
bit_none d x h =
    let ne : bit_at d x ≡ 1 → ⊥ = eqb-false (bit_at d x) 1 h in let lt : bit_at d x < 2 = bit_low d x in omega arith

module _ (d : Domains) (i x : ℕ) (low : i < 32) (fits : x < 64) where
  pub sets_others : (v j : ℕ) → (j ≡ i → ⊥) → get_or (set d.sets i v) j 0 ≡ get_or d.sets j 0
  sets_others v j ne = get_or-set_other d.sets i j v 0 ne

  pub sets_wide : (v : ℕ) → v < 2 ^ 64 → (j : ℕ) → get_or (set d.sets i v) j 0 < 2 ^ 64
  sets_wide v h j =
      ⊎_elim (λ e. rw e (omega (arith, get_or-set_same d.sets i v 0 (omega (arith, d.sets_long)))))
      (λ ne. omega (arith, sets_others v j ne, d.wide j)) (cases_eq j i)

  -- the data after the value went out, and after it came back
  abbrev pub without : Justification → Domains
  without why = record {
    sets = set d.sets i (bit_xor (get_or d.sets i 0) ((1 * 2 ^ x) % 2 ^ 64));
    why = set d.why i (set (get_or d.why i []) x why);
    clock = d.clock + 1;
    sets_long = length-set d.sets i _ ∙ d.sets_long;
    why_long = length-set d.why i _ ∙ d.why_long;
    each_why_long = each_set d.why i (set (get_or d.why i []) x why) 32 64 d.why_long
        (length-set (get_or d.why i []) x _ ∙ d.each_why_long i low) d.each_why_long;
    wide = sets_wide (bit_xor (get_or d.sets i 0) ((1 * 2 ^ x) % 2 ^ 64)) (rw (one_shl x 64 fits) (xor_lt 64 (get_or d.sets i 0) (2 ^ x) (d.wide i) (pow-lt fits)));
  }

  abbrev pub with_value : Domains
  with_value = record {
    sets = set d.sets i (bit_or (get_or d.sets i 0) ((1 * 2 ^ x) % 2 ^ 64));
    why = d.why;
    clock = d.clock;
    sets_long = length-set d.sets i _ ∙ d.sets_long;
    why_long = d.why_long;
    each_why_long = d.each_why_long;
    wide = sets_wide (bit_or (get_or d.sets i 0) ((1 * 2 ^ x) % 2 ^ 64)) (rw (one_shl x 64 fits) (or_lt 64 (get_or d.sets i 0) (2 ^ x) (d.wide i) (pow-lt fits)));
  }

  written : (why : Justification) → entry (without why).why i x ≡ why
  written why = entry_same d.why i x why (omega (arith, d.why_long)) (omega (arith, d.each_why_long i low))

  unwritten : (why : Justification) (j y : ℕ) → ((i ≡ j) × (x ≡ y) → ⊥) → entry (without why).why j y ≡ entry d.why j y
  unwritten why j y ne = entry_other d.why i x why j y (omega (arith, d.why_long)) ne

  pub put_out : (why : Justification) (p : ℕ) → why ≡ record { constraint = p; time = d.clock } → shown d i x ≡ true → PutOut (standing d) (standing (without why)) i x p d.clock
  put_out why p is was =
      record {
        shown = was;
        gone = here x ∙ ap (λ b. has_bit (get_or d.sets i 0) x && not b) (eq-eqb x x refl) ∙ and_no (has_bit (get_or d.sets i 0) x);
        reason = ap (λ j. j.constraint) (written why ∙ is);
        time = ap (λ j. j.time) (written why ∙ is);
        others = λ j y ne.
            record {
              shown = ⊎_elim (λ e. other_here j y ne e) (λ n. set_there d.sets i _ (omega (arith, d.sets_long)) j y n) (cases_eq j i);
              reason = ap (λ k. k.constraint) (unwritten why j y ne);
              time = ap (λ k. k.time) (unwritten why j y ne);
            };
      }
    where
      here : (y : ℕ) → shown (without why) i y ≡ (has_bit (get_or d.sets i 0) y && not (eqb x y))
      here y =
          set_here d.sets i (bit_xor (get_or d.sets i 0) ((1 * 2 ^ x) % 2 ^ 64)) (omega (arith, d.sets_long)) y
          ∙ ap (λ n. has_bit (bit_xor (get_or d.sets i 0) n) y) (one_shl x 64 fits)
          ∙ has_cleared (get_or d.sets i 0) x y was

      other_here : (j y : ℕ) → ((i ≡ j) × (x ≡ y) → ⊥) → j ≡ i → shown (without why) j y ≡ shown d j y
      other_here j y ne e =
          let apart : eqb x y ≡ false = ne_eqb x y (λ f. ne (sym e, f)) in
          rw e (here y ∙ ap (λ b. has_bit (get_or d.sets i 0) y && not b) apart ∙ and_yes (has_bit (get_or d.sets i 0) y))

  pub out_total : (why : Justification) → shown d i x ≡ true → total (without why).sets + 1 ≡ total d.sets
  out_total why was =
      let v : ℕ = bit_xor (get_or d.sets i 0) ((1 * 2 ^ x) % 2 ^ 64) in
      let e : ones v + 1 ≡ ones (get_or d.sets i 0) = ap (λ n. ones (bit_xor (get_or d.sets i 0) n) + 1) (one_shl x 64 fits) ∙ ones_cleared 64 (get_or d.sets i 0) x (d.wide i) fits (bit_one (get_or d.sets i 0) x was) in
      omega (arith, e, total-set d.sets i v (omega (arith, d.sets_long)))

  pub put_back : shown d i x ≡ false → PutBack (standing d) (standing with_value) i x
  put_back was =
      record {
        back = here x ∙ ap (λ b. has_bit (get_or d.sets i 0) x || b) (eq-eqb x x refl) ∙ or_yes (has_bit (get_or d.sets i 0) x);
        others = λ j y ne.
            record {
              shown = ⊎_elim (λ e. other_here j y ne e) (λ n. set_there d.sets i _ (omega (arith, d.sets_long)) j y n) (cases_eq j i);
              reason = refl;
              time = refl;
            };
      }
    where
      here : (y : ℕ) → shown with_value i y ≡ (has_bit (get_or d.sets i 0) y || eqb x y)
      here y =
          set_here d.sets i (bit_or (get_or d.sets i 0) ((1 * 2 ^ x) % 2 ^ 64)) (omega (arith, d.sets_long)) y
          ∙ ap (λ n. has_bit (bit_or (get_or d.sets i 0) n) y) (one_shl x 64 fits)
          ∙ has_added (get_or d.sets i 0) x y

      other_here : (j y : ℕ) → ((i ≡ j) × (x ≡ y) → ⊥) → j ≡ i → shown with_value j y ≡ shown d j y
      other_here j y ne e =
          let apart : eqb x y ≡ false = ne_eqb x y (λ f. ne (sym e, f)) in
          rw e (here y ∙ ap (λ b. has_bit (get_or d.sets i 0) y || b) apart ∙ or_no (has_bit (get_or d.sets i 0) y))

  pub back_total : shown d i x ≡ false → total with_value.sets ≡ total d.sets + 1
  back_total was =
      let v : ℕ = bit_or (get_or d.sets i 0) ((1 * 2 ^ x) % 2 ^ 64) in
      let e : ones v ≡ ones (get_or d.sets i 0) + 1 = ap (λ n. ones (bit_or (get_or d.sets i 0) n)) (one_shl x 64 fits) ∙ ones_added 64 (get_or d.sets i 0) x (d.wide i) fits (bit_none (get_or d.sets i 0) x was) in
      omega (arith, e, total-set d.sets i v (omega (arith, d.sets_long)))
