-- What links the state to a catalog stays while constraints go in and out and are loaded.
use Rattle.std.proofs.Common.{◌≡◌, ℕ, ◌<◌, ◌≤◌, Bool, true, false, cond, eqb, List, length, get_or, set, sym, ap, ◌∙◌, subst, ⊎_elim, arith}
use Rattle.std.proofs.lemmas.List.{get_or-set_same, get_or-set_other, length-set}
use Rattle.std.proofs.lemmas.Bool.{cases_eq, eq-eqb, ne_eqb, cond-true, cond-false, ltb-true}
use Rattle.bits.specs.Bits.{has_bit}
use Rattle.catalog.specs.Meaning.{Meaning, allowed}
use Rattle.domains.specs.declared.Constraints.{Constraints}
use Rattle.domains.specs.Model.{within, is_present, pair_at}
use Rattle.domains.specs.Stands.{Loaded, with_present}
use Rattle.network.specs.Model.{Known, Links}

-- which constraints are in after one went in or out
pub present_set : (c : Constraints) (p : ℕ) (b : Bool) → p < length c.present → (q : ℕ) → is_present (with_present c p b) q ≡ cond (eqb q p) b (is_present c q)
present_set c p b low q =
    ⊎_elim
    (λ e. ap (λ k. get_or (set c.present p b) k false) e ∙ get_or-set_same c.present p b false low ∙ sym (cond-true (eqb q p) b (is_present c q) (eq-eqb q p e)))
    (λ ne. get_or-set_other c.present p q b false ne ∙ sym (cond-false (eqb q p) b (is_present c q) (ne_eqb q p ne)))
    (cases_eq q p)

known_set : (m : Meaning) (c : Constraints) (p : ℕ) (b : Bool) (q : ℕ) → Known m c q → Known m (with_present c p b) q
unfolding pair_at
known_set m c p b q k = record { is_one = k.is_one; left = k.left; right = k.right; rows = λ x y bx by. k.rows x y bx by }

-- a known constraint goes in or out
pub links_set : (m : Meaning) (c : Constraints) (n : ℕ) (known : List Bool) (p : ℕ) (b : Bool) → get_or known p false ≡ true → Links m c n known → Links m (with_present c p b) n known
links_set m c n known p b here l =
    record {
      few = l.few;
      past = l.past;
      long = l.long;
      present = λ q h.
          ⊎_elim (λ e. ap (λ k. get_or known k false) e ∙ here) (λ ne. l.present q (sym (get_or-set_other c.present p q b false ne) ∙ h)) (cases_eq q p);
      means = λ q h. known_set m c p b q (l.means q h);
    }

-- the rows that the catalog gives for a constraint, inside the sizes
abbrev pub Asked : Meaning → Constraints → ℕ → List ℕ → Type 0
Asked m c p rows = (x y : ℕ) → within c (m.left p) x ≡ true → within c (m.right p) y ≡ true → has_bit (get_or rows x 0) y ≡ allowed m p x y

-- a constraint is loaded with its rows, and known from then on
pub links_loaded
    : (m : Meaning) (c c' : Constraints) (n : ℕ) (known : List Bool) (p : ℕ) (rows : List ℕ) → p < m.count → p < 128 → ((i : ℕ) → get_or c.sizes i 0 ≤ 64)
    → Loaded c c' p (m.left p) (m.right p) rows → Asked m c p rows → Links m c n known → Links m c' n (set known p true)
links_loaded m c c' n known p rows one low small loaded asked l =
    record {
      few = l.few;
      past = λ i h. ap (λ s. get_or s i 0) loaded.sizes ∙ l.past i h;
      long = length-set known p true ∙ l.long;
      present = λ q h. keep q (l.present q (sym (ap (λ s. get_or s q false) loaded.present) ∙ h));
      means = λ q h.
          ⊎_elim (λ e. subst (Known m c') (sym e) this) (λ ne. other q ne (l.means q (sym (get_or-set_other known p q true false ne) ∙ h))) (cases_eq q p);
    }
  where
    keep : (q : ℕ) → get_or known q false ≡ true → get_or (set known p true) q false ≡ true
    keep q h =
        ⊎_elim
        (λ e. ap (λ k. get_or (set known p true) k false) e ∙ get_or-set_same known p true false (omega (arith, l.long)))
        (λ ne. get_or-set_other known p q true false ne ∙ h) (cases_eq q p)

    bounded : (i x : ℕ) → within c' i x ≡ within c i x
    bounded i x = ap (λ s. lib.Dec.ltb x (get_or s i 0)) loaded.sizes

    this : Known m c' p
    this =
        record {
          is_one = one;
          left = loaded.left_end;
          right = loaded.right_end;
          rows = λ x y bx by.
              let inside : within c (m.left p) x ≡ true = sym (bounded (m.left p) x) ∙ bx in
              loaded.pairs x y (omega (arith, ltb-true x (get_or c.sizes (m.left p) 0) inside, small (m.left p)))
              ∙ asked x y inside (sym (bounded (m.right p) y) ∙ by);
        }

    other : (q : ℕ) → (q ≡ p → ⊥) → Known m c q → Known m c' q
    other q ne k =
        record {
          is_one = k.is_one;
          left = loaded.left_others q ne ∙ k.left;
          right = loaded.right_others q ne ∙ k.right;
          rows = λ x y bx by. loaded.pair_others q x y ne ∙ k.rows x y (sym (bounded (m.left q) x) ∙ bx) (sym (bounded (m.right q) y) ∙ by);
        }
