-- The counts, one step on.
use Rattle.std.proofs.Common.{◌≡◌, ℕ, ◌+◌, Bool, true, false, ◌&&◌, ◌||◌, eqb, ltb, List, [], ◌∷◌, ◌++◌, sym, refl, ap, ◌∙◌, ⊎_elim, add-one, arith}
use Rattle.std.proofs.Math.Bool.{and-false, or-false, or_assoc}
use Rattle.std.proofs.lemmas.Bool.Decides.{nat_tests}
use Rattle.std.proofs.lemmas.Bool.{true≢false, cases_eq, ne_eqb}
use Rattle.catalog.specs.Meaning.{Meaning}
use Rattle.scratch.specs.Named.{named}
use Rattle.scratch.specs.Counts.{beside_count, pair_count, is_inside}

pub pairs_none : (m : Meaning) (p size : ℕ) → pair_count m p size 0 ≡ 0
unfolding pair_count
pairs_none m p size = refl

pub pairs_more : (m : Meaning) (p size x : ℕ) → pair_count m p size (x + 1) ≡ pair_count m p size x + beside_count m p x size
unfolding pair_count
pairs_more m p size x = ap (pair_count m p size) (add-one x)

-- one index more in a list
pub named_push : (xs : List ℕ) (p q : ℕ) → named (xs ++ p ∷ []) q ≡ (named xs q || eqb p q)
named_push [] p q = or-false (eqb p q)
named_push (x ∷ xs) p q = ap (λ b. eqb x q || b) (named_push xs p q) ∙ sym (or_assoc (eqb x q) (named xs q) (eqb p q))

-- one constraint more: named where it lies inside, left out where it does not
pub inside_yes : (m : Meaning) (n p : ℕ) (xs : List ℕ) → true ≡ is_inside m n p → ((q : ℕ) → named xs q ≡ (ltb q p && is_inside m n q))
    → (q : ℕ) → named (xs ++ p ∷ []) q ≡ (ltb q (p + 1) && is_inside m n q)
inside_yes m n p xs e h q = named_push xs p q ∙ ap (λ b. b || eqb p q) (h q) ∙ by (is_inside m n q) (λ s. ap (is_inside m n) s)
  where
    by : (t : Bool) → (p ≡ q → is_inside m n p ≡ t) → ((ltb q p && t) || eqb p q) ≡ (ltb q (p + 1) && t)
    by true f = grind (arith, nat_tests)
    by false f = ⊎_elim (λ s. absurd (true≢false (e ∙ f s))) (λ s. ap (λ b. b || eqb p q) (and-false (ltb q p)) ∙ ne_eqb p q s ∙ sym (and-false (ltb q (p + 1)))) (cases_eq p q)

pub inside_no : (m : Meaning) (n p : ℕ) (xs : List ℕ) → false ≡ is_inside m n p → ((q : ℕ) → named xs q ≡ (ltb q p && is_inside m n q))
    → (q : ℕ) → named xs q ≡ (ltb q (p + 1) && is_inside m n q)
inside_no m n p xs e h q = h q ∙ by (is_inside m n q) (λ s. ap (is_inside m n) s)
  where
    by : (t : Bool) → (p ≡ q → is_inside m n p ≡ t) → (ltb q p && t) ≡ (ltb q (p + 1) && t)
    by true f = ⊎_elim (λ s. absurd (true≢false (sym (e ∙ f s)))) (λ s. grind (arith, nat_tests)) (cases_eq p q)
    by false f = and-false (ltb q p) ∙ sym (and-false (ltb q (p + 1)))
