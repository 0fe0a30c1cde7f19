-- Each kind of record: what passes the check is the record of a valid item, and the record of a valid item passes.
use Rattle.std.proofs.Common.{◌≡◌, ℕ, ◌^◌, ◌<◌, ◌≤◌, true, not, ◌&&◌, eqb, ltb, leb, List, [], ◌∷◌, ◌++◌, length, get_or, drop, ℤ, pos, negsuc, ◌≤ℤ◌, sym, ap, ◌∙◌, arith, w16, w32, SFits, to_z, of_z}
use lib.Signed.{le_z}
use mir.Facts.{sfits_to_z, Fits-of_z}
use Rattle.std.proofs.lemmas.List.{drop_more, drop_all, append-nil}
use Rattle.std.proofs.lemmas.Int.{to_z-of_z, of_z-to_z, ints}
use Rattle.std.proofs.lemmas.Bool.{ltb-true, leb-true, eqb-false, and_parts, and_from, not-true, lt-ltb, le-leb, ne_eqb, not_from_false}
use Rattle.sheet_format.specs.Numbers.{two, four, number2, number4}
use Rattle.sheet_format.specs.Value.{sum, ValidEnds, ValidSum}
use Rattle.sheet_format.specs.Encoding.{Raw, constraint_record}
use Rattle.sheet_format.specs.Decoding.{sum_in}
use Rattle.sheet_format.specs.Verdict.{between, between_z, ends_good, sum_good, sum_body_good}
use Rattle.sheet_law.proofs.NumberLaws.{two_back, four_back, Bytes, word_at, long_at}

-- a record from its kind and its body
pub same_raw : (r : Raw) (kind : ℕ) (body : List ℕ) → r.kind ≡ kind → r.body ≡ body → r ≡ record { kind = kind; body = body }
same_raw r kind body e f = ap (λ k. record { kind = k; body = r.body }) e ∙ ap (λ b. record { kind = kind; body = b }) f

-- tests and what they say
pub between_is : (low high x : ℕ) → between low high x ≡ true → (low ≤ x) × (x ≤ high)
between_is low high x e = let p = and_parts (leb low x) (leb x high) e in (leb-true _ _ p.0, leb-true _ _ p.1)

pub is_between : (low high x : ℕ) → low ≤ x → x ≤ high → between low high x ≡ true
is_between low high x h k = and_from (leb low x) (leb x high) (le-leb low x h) (le-leb x high k)

pub ends_valid : (n a b : ℕ) → ends_good n a b ≡ true → ValidEnds n a b
ends_valid n a b e =
    let p = and_parts (ltb a n) (ltb b n && not (eqb a b)) e in
    let q = and_parts (ltb b n) (not (eqb a b)) p.1 in
    record { a_low = ltb-true _ _ p.0; b_low = ltb-true _ _ q.0; apart = eqb-false a b (not-true (eqb a b) q.1) }

pub valid_ends : (n a b : ℕ) → ValidEnds n a b → ends_good n a b ≡ true
valid_ends n a b v =
    and_from (ltb a n) (ltb b n && not (eqb a b)) (lt-ltb a n v.a_low)
    (and_from (ltb b n) (not (eqb a b)) (lt-ltb b n v.b_low) (not_from_false (eqb a b) (ne_eqb a b v.apart)))

pub le_z_is : (a b : ℤ) → le_z a b ≡ true → a ≤ℤ b
le_z_is a b e = grind (arith, ints)

pub is_le_z : (a b : ℤ) → a ≤ℤ b → le_z a b ≡ true
is_le_z a b h = grind (arith, ints)

-- a body of four bytes is two numbers
pub two_numbers : (body : List ℕ) → Bytes body → length body ≡ 4 → body ≡ two (number2 body 0) ++ two (number2 body 2)
two_numbers body b l =
    (word_at body 0 b (omega arith)).0
    ∙ ap (λ ys. two (number2 body 0) ++ ys)
    ((word_at body 2 b (omega arith)).0 ∙ ap (λ ys. two (number2 body 2) ++ ys) (drop_all 4 body (omega arith)) ∙ append-nil (two (number2 body 2)))

-- a body of two bytes is one number
pub one_number : (body : List ℕ) → Bytes body → length body ≡ 2 → (body ≡ two (number2 body 0)) × (number2 body 0 < 65536)
one_number body b l =
    let w = word_at body 0 b (omega arith) in
    (w.0 ∙ ap (λ ys. two (number2 body 0) ++ ys) (drop_all 2 body (omega arith)) ∙ append-nil (two (number2 body 0)), w.1)

-- a body of fourteen bytes is that of the sum which it gives
pub sum_again : (body : List ℕ) → Bytes body → length body ≡ 14 → (body ≡ (constraint_record (sum_in body)).body) × (number4 body 6 < 2 ^ 32) × (number4 body 10 < 2 ^ 32)
sum_again body b l =
    let m = word_at body 2 b (omega arith) in
    let k = word_at body 4 b (omega arith) in
    let lo = long_at body 6 b (omega arith) in
    let hi = long_at body 10 b (omega arith) in
    let none : drop 14 body ≡ [] = drop_all 14 body (omega arith) in
    let bm : of_z w16 (to_z w16 (number2 body 2)) ≡ number2 body 2 = of_z-to_z w16 (number2 body 2) m.1 in
    let bk : of_z w16 (to_z w16 (number2 body 4)) ≡ number2 body 4 = of_z-to_z w16 (number2 body 4) k.1 in
    let bl : of_z w32 (to_z w32 (number4 body 6)) ≡ number4 body 6 = of_z-to_z w32 (number4 body 6) lo.1 in
    let bh : of_z w32 (to_z w32 (number4 body 10)) ≡ number4 body 10 = of_z-to_z w32 (number4 body 10) hi.1 in (
      drop_more body 0 0 (omega arith)
          ∙ ap (λ ys. get_or body 0 0 ∷ ys) (drop_more body 1 0 (omega arith))
          ∙ ap (λ ys. get_or body 0 0 ∷ (get_or body 1 0 ∷ ys)) (m.0 ∙ ap (λ n. two n ++ drop 4 body) (sym bm))
          ∙ ap (λ ys. get_or body 0 0 ∷ (get_or body 1 0 ∷ (two (of_z w16 (to_z w16 (number2 body 2))) ++ ys))) (k.0 ∙ ap (λ n. two n ++ drop 6 body) (sym bk))
          ∙ ap (λ ys. get_or body 0 0 ∷ (get_or body 1 0 ∷ (two (of_z w16 (to_z w16 (number2 body 2))) ++ (two (of_z w16 (to_z w16 (number2 body 4))) ++ ys)))) (lo.0 ∙ ap (λ n. four n ++ drop 10 body) (sym bl))
          ∙ ap (λ ys. get_or body 0 0 ∷ (get_or body 1 0 ∷ (two (of_z w16 (to_z w16 (number2 body 2))) ++ (two (of_z w16 (to_z w16 (number2 body 4))) ++ (four (of_z w32 (to_z w32 (number4 body 6))) ++ ys)))))
          (hi.0 ∙ ap (λ n. four n ++ drop 14 body) (sym bh) ∙ ap (λ ys. four (of_z w32 (to_z w32 (number4 body 10))) ++ ys) none ∙ append-nil (four (of_z w32 (to_z w32 (number4 body 10))))),
      lo.1,
      hi.1,
    )

-- the tests of a sum say that it is valid
pub sum_valid : (n : ℕ) (body : List ℕ) → ends_good n (get_or body 0 0) (get_or body 1 0) ≡ true → sum_body_good body ≡ true → number4 body 6 < 2 ^ 32 → number4 body 10 < 2 ^ 32
    → ValidSum n (get_or body 0 0) (get_or body 1 0) (to_z w16 (number2 body 2)) (to_z w16 (number2 body 4)) (to_z w32 (number4 body 6)) (to_z w32 (number4 body 10))
sum_valid n body e g fl fh =
    let m : ℤ = to_z w16 (number2 body 2) in
    let k : ℤ = to_z w16 (number2 body 4) in
    let lo : ℤ = to_z w32 (number4 body 6) in
    let hi : ℤ = to_z w32 (number4 body 10) in
    let p = and_parts (between_z (negsuc 999) (pos 1000) m) (between_z (negsuc 999) (pos 1000) k && le_z lo hi) g in
    let q = and_parts (between_z (negsuc 999) (pos 1000) k) (le_z lo hi) p.1 in
    let pm = and_parts (le_z (negsuc 999) m) (le_z m (pos 1000)) p.0 in
    let pk = and_parts (le_z (negsuc 999) k) (le_z k (pos 1000)) q.0 in
    record {
      ends = ends_valid n (get_or body 0 0) (get_or body 1 0) e;
      m_low = le_z_is (negsuc 999) m pm.0;
      m_high = le_z_is m (pos 1000) pm.1;
      k_low = le_z_is (negsuc 999) k pk.0;
      k_high = le_z_is k (pos 1000) pk.1;
      lo_fits = sfits_to_z (record { fits = fl });
      hi_fits = sfits_to_z (record { fits = fh });
      ordered = le_z_is lo hi q.1;
    }

-- a factor from -1,000 to 1,000 fits two bytes
factor_fits : (z : ℤ) → negsuc 999 ≤ℤ z → z ≤ℤ pos 1000 → SFits w16 z
factor_fits (pos n) h k = record { sfits = (let j : n ≤ 1000 = grind (arith, ints) in omega arith) }
factor_fits (negsuc n) h k = record { sfits = (let j : n ≤ 999 = grind (arith, ints) in omega arith) }

-- a sum whose numbers fit their fields reads back from its body
pub sum_back : (a b : ℕ) (m k lo hi : ℤ) → SFits w16 m → SFits w16 k → SFits w32 lo → SFits w32 hi
    → (sum_in (constraint_record (sum a b m k lo hi)).body ≡ sum a b m k lo hi) × (sum_body_good (constraint_record (sum a b m k lo hi)).body ≡ sum_good m k lo hi)
sum_back a b m k lo hi fm fk fl fh =
    let em : to_z w16 (number2 (two (of_z w16 m)) 0) ≡ m = ap (to_z w16) (two_back (of_z w16 m) [] (Fits-of_z fm).fits) ∙ to_z-of_z w16 m fm in
    let ek : to_z w16 (number2 (two (of_z w16 k)) 0) ≡ k = ap (to_z w16) (two_back (of_z w16 k) [] (Fits-of_z fk).fits) ∙ to_z-of_z w16 k fk in
    let el : to_z w32 (number4 (four (of_z w32 lo)) 0) ≡ lo = ap (to_z w32) (four_back (of_z w32 lo) [] (Fits-of_z fl).fits) ∙ to_z-of_z w32 lo fl in
    let eh : to_z w32 (number4 (four (of_z w32 hi)) 0) ≡ hi = ap (to_z w32) (four_back (of_z w32 hi) [] (Fits-of_z fh).fits) ∙ to_z-of_z w32 hi fh in
    let whole : (w x y z : ℤ) → w ≡ m → x ≡ k → y ≡ lo → z ≡ hi → (sum a b w x y z ≡ sum a b m k lo hi) × (sum_good w x y z ≡ sum_good m k lo hi) = λ w x y z p q r s. (cc, cc) in
    whole _ _ _ _ em ek el eh

-- a valid sum reads back from its body, and passes
pub sum_there : (n a b : ℕ) (m k lo hi : ℤ) → ValidSum n a b m k lo hi
    → (sum_in (constraint_record (sum a b m k lo hi)).body ≡ sum a b m k lo hi) × (sum_body_good (constraint_record (sum a b m k lo hi)).body ≡ true)
sum_there n a b m k lo hi v =
    let back = sum_back a b m k lo hi (factor_fits m v.m_low v.m_high) (factor_fits k v.k_low v.k_high) v.lo_fits v.hi_fits in
    let good : sum_good m k lo hi ≡ true =
    and_from _ _ (and_from _ _ (is_le_z (negsuc 999) m v.m_low) (is_le_z m (pos 1000) v.m_high))
    (and_from _ _ (and_from _ _ (is_le_z (negsuc 999) k v.k_low) (is_le_z k (pos 1000) v.k_high)) (is_le_z lo hi v.ordered)) in
    (back.0, back.1 ∙ good)
