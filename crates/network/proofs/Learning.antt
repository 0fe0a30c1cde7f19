-- A constraint that is asked of the catalog becomes known.
use Rattle.std.proofs.Common.{◌≡◌, ℕ, ◌<◌, Bool, true, false, not, ltb, List, get_or, set, Some, None, MatchBool, sym, ap, ◌∙◌, subst, ⊎_elim, arith}
use Rattle.std.proofs.lemmas.List.{get_or-set_same}
use Rattle.std.proofs.lemmas.Bool.{and_from, cases_Bool, cond-true, cond-false, lt-ltb, ltb-true, ne_eqb}
use Rattle.bits.specs.Bits.{has_bit}
use Rattle.catalog.specs.Meaning.{Meaning, Lawful, allowed, ends_of}
use Rattle.domains.specs.declared.Constraints.{Constraints}
use Rattle.domains.specs.Model.{is_present}
use Rattle.domains.specs.Stands.{Loaded}
use Rattle.engine.specs.Calls.{can_load}
use Rattle.network.specs.declared.state.State.{State}
use Rattle.network.specs.Model.{Linked, Links}
use Rattle.network.specs.Performs.{Learnt}
use Rattle.network.proofs.Asking.{stands_in}
use Rattle.network.proofs.Altered.{links_loaded}

-- what the ends of a constraint say
pub record Ends (m : Meaning) (p left right : ℕ) : Type 0 where
  pub is_one : p < m.count
  pub left_is : left ≡ m.left p
  pub right_is : right ≡ m.right p

some_same : {A : Type 0} (a b : A) → Some a ≡ Some b → a ≡ b
some_same a b e = cc

some_none : {A : Type 0} (a : A) → Some a ≡ None → ⊥
some_none a e = let z : ◌≡◌ {A = ℕ} 0 1 = cc in omega arith

pub ends_are : (m : Meaning) (p left right : ℕ) → Some (left, right) ≡ ends_of m p → Ends m p left right
ends_are m p left right e =
    let a : ℕ × ℕ = (left, right) in
    let b : ℕ × ℕ = (m.left p, m.right p) in
    ⊎_elim
    (λ t.
    let g : a ≡ b = some_same a b (e ∙ cond-true (ltb p m.count) (Some b) None t) in
    record { is_one = ltb-true p m.count t; left_is = ap (λ v. v.0) g; right_is = ap (λ v. v.1) g })
    (λ t. absurd (some_none a (e ∙ cond-false (ltb p m.count) (Some b) None t)))
    (cases_Bool (ltb p m.count))

module _ (m : Meaning) (lawful : Lawful m) (p left right : ℕ) (ends : Some (left, right) ≡ ends_of m p) where
  here : Ends m p left right
  here = ends_are m p left right ends

  pub low : p < 128
  low = omega (arith, here.is_one, lawful.few)

  pub may_load : (c : Constraints) → is_present c p ≡ false → can_load c p left right ≡ true
  may_load c out =
      and_from (ltb p 128) _ (lt-ltb p 128 low)
      (and_from (not (is_present c p)) _ (ap not out)
      (and_from (ltb left 32) _ (lt-ltb left 32 (omega (arith, here.left_is, lawful.left_low p here.is_one)))
      (and_from (ltb right 32) _ (lt-ltb right 32 (omega (arith, here.right_is, lawful.right_low p here.is_one)))
      (ap not (ne_eqb left right (λ e. lawful.apart p here.is_one (sym here.left_is ∙ e ∙ here.right_is)))))))

  pub learnt
      : (s s' : State) (rows : List ℕ) (b : Bool) → is_present s.engine.constraints p ≡ false → b ≡ can_load s.engine.constraints p left right
      → MatchBool b (Loaded s.engine.constraints s'.engine.constraints p left right rows) (s'.engine.constraints ≡ s.engine.constraints)
      → s'.engine.domains ≡ s.engine.domains → s'.variables ≡ s.variables → s'.known ≡ set s.known p b
      → ((x y : ℕ) → x < get_or s.engine.constraints.sizes left 0 → y < get_or s.engine.constraints.sizes right 0 → has_bit (get_or rows x 0) y ≡ allowed m p x y)
      → Linked m s → Learnt m p s s'
  learnt s s' rows b out can when domains variables known asked linked =
      let c : Constraints = s.engine.constraints in
      let c' : Constraints = s'.engine.constraints in
      let yes : b ≡ true = can ∙ may_load c out in
      let L : ℕ → ℕ → Type 0 = λ l r. Loaded c c' p l r rows in
      let W : Bool → Type 0 = λ v. MatchBool v (Loaded c c' p left right rows) (c' ≡ c) in
      let loaded : Loaded c c' p left right rows = subst W yes when in
      let loaded' : Loaded c c' p (m.left p) (m.right p) rows = subst (λ r. L (m.left p) r) here.right_is (subst (λ l. L l right) here.left_is loaded) in
      let now : s'.known ≡ set s.known p true = known ∙ ap (set s.known p) yes in
      let sizes : ℕ → ℕ = λ i. get_or c.sizes i 0 in
      record {
        linked =
            subst (λ k. Links m c' s'.variables k) (sym now)
            (subst (λ n. Links m c' n (set s.known p true)) (sym variables)
            (links_loaded m c c' s.variables s.known p rows here.is_one low (stands_in s).shape.small loaded'
            (λ x y bx by.
            asked x y (subst (λ i. x < sizes i) (sym here.left_is) (ltb-true x (sizes (m.left p)) bx)) (subst (λ i. y < sizes i) (sym here.right_is) (ltb-true y (sizes (m.right p)) by)))
            linked));
        known = ap (λ k. get_or k p false) now ∙ get_or-set_same s.known p true false (omega (arith, low, linked.long));
        sizes = loaded.sizes;
        present = loaded.present;
        domains = domains;
        variables = variables;
      }
