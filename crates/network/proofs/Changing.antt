-- Adding and retracting, by what the code tests and the engine does.
use Rattle.std.proofs.Common.{◌≡◌, ℕ, ◌<◌, Bool, true, false, not, eqb, ltb, List, length, get_or, Some, None, Ok, Err, Result, sym, refl, ap, ◌∙◌, subst, subst₂, arith, IfOk, MatchResult}
use Rattle.std.proofs.lemmas.Bool.{and_from, both_ways, lt-ltb, ltb-true, not-false, ne_eqb, or_parts}
use Rattle.arcs.specs.WipedOut.{WipedOut}
use Rattle.catalog.specs.Meaning.{Meaning, Lawful}
use Rattle.catalog.specs.declared.refusal.Refusal.{Refusal}
use Rattle.catalog.specs.declared.refusal.Refusal.TheVariants.{NoSuchConstraint, AlreadyIn, NotIn, ShortBuffer, ClockSpent}
use Rattle.catalog.specs.Causes.{first, constraint_refusal}
use Rattle.catalog.proofs.Sizes.{first_none}
use Rattle.domains.specs.declared.Constraints.{Constraints}
use Rattle.domains.specs.declared.Domains.{Domains}
use Rattle.domains.specs.declared.Returning.{Returning}
use Rattle.domains.specs.Model.{is_present, left_of, right_of, shown}
use Rattle.domains.specs.Stands.{with_present}
use Rattle.engine.specs.Calls.{Added, Retracted, can_add, can_retract}
use Rattle.network.specs.declared.law.Change.{Change}
use Rattle.network.specs.declared.law.Answer.TheVariants.{Changed, Refused}
use Rattle.network.specs.Calls.{Lengths, adds, retracts}
use Rattle.network.specs.Refusals.{refusal, when, short, spent, lent_refusal}
use Rattle.network.specs.Step.{Step}
use Rattle.network.specs.declared.state.State.{State}
use Rattle.network.specs.Model.{Known, Linked, Links, moment, moment_of}
use Rattle.network.specs.Performs.{Took, Learnt, answer_by, lengths_of, add_cause, retract_cause}
use Rattle.network.proofs.Asking.{when_none, stands_in, as_many, refused}
use Rattle.network.proofs.Altered.{links_set}
use Rattle.network.proofs.Steps.{step_add, step_retract}

pub record Lending (lengths : Lengths) (late : Bool) : Type 0 where
  pub waiting : ltb lengths.waiting 128 ≡ false
  pub returning : ltb lengths.returning 2048 ≡ false
  pub time : late ≡ false

lending : (lengths : Lengths) (late : Bool) → lent_refusal lengths late ≡ None → Lending lengths late
lending lengths late e =
    let p = first_none (when (short lengths) ShortBuffer) (when late ClockSpent) e in
    let q = or_parts (ltb lengths.waiting 128) (ltb lengths.returning 2048) (when_none (short lengths) ShortBuffer p.0) in
    record { waiting = q.0; returning = q.1; time = when_none late ClockSpent p.1 }

module _ (m : Meaning) (lawful : Lawful m) (s : State) (p : ℕ) (waiting : List ℕ) (returning : List Returning) (linked : Linked m s) where
  refusal-adds : refusal m (moment_of s).book (spent (moment_of s).clock) (adds p (lengths_of waiting returning)) ≡ add_cause m s p (lengths_of waiting returning)
  refusal-adds =
      ap (λ n. first (constraint_refusal m n p) (first (when (is_present s.engine.constraints p) AlreadyIn) (lent_refusal (lengths_of waiting returning) (spent s.engine.domains.clock))))
      (as_many m lawful s linked)

  pub add_refused : (e : Refusal) → Some e ≡ add_cause m s p (lengths_of waiting returning) → Took m s (adds p (lengths_of waiting returning)) (Refused e) s
  add_refused e why = refused m lawful s linked (adds p (lengths_of waiting returning)) e (refusal-adds ∙ sym why)

  pub retract_refused : (e : Refusal) → Some e ≡ retract_cause m s p (lengths_of waiting returning) → Took m s (retracts p (lengths_of waiting returning)) (Refused e) s
  retract_refused e why = refused m lawful s linked (retracts p (lengths_of waiting returning)) e (sym why)

  -- the engine turns nothing down that may be added
  pub may_add : (s₁ : State) → None ≡ add_cause m s p (lengths_of waiting returning) → Learnt m p s s₁ → can_add s₁.engine.constraints s₁.engine.domains p (length waiting) ≡ true
  may_add s₁ none learnt =
      let a = first_none (constraint_refusal m s.variables p) _ (sym none) in
      let b = first_none (when (is_present s.engine.constraints p) AlreadyIn) _ a.1 in
      let l : Lending (lengths_of waiting returning) (spent s.engine.domains.clock) = lending (lengths_of waiting returning) (spent s.engine.domains.clock) b.1 in
      let c₁ : Constraints = s₁.engine.constraints in
      let k : Known m c₁ p = learnt.linked.means p learnt.known in
      let out : is_present c₁ p ≡ false = ap (λ v. get_or v p false) learnt.present ∙ when_none (is_present s.engine.constraints p) AlreadyIn b.0 in
      and_from (ltb p 128) _ (lt-ltb p 128 (omega (arith, k.is_one, lawful.few)))
      (and_from (not (is_present c₁ p)) _ (ap not out)
      (and_from (not (eqb (left_of c₁ p) (right_of c₁ p))) _ (ap not (ne_eqb (left_of c₁ p) (right_of c₁ p) (λ e. lawful.apart p k.is_one (sym k.left ∙ e ∙ k.right))))
      (and_from (not (ltb (length waiting) 128)) _ (ap not l.waiting)
      (ap not (ap (λ d. spent d.clock) learnt.domains ∙ l.time)))))

  pub may_retract : None ≡ retract_cause m s p (lengths_of waiting returning) → can_retract s.engine.constraints s.engine.domains p (length waiting) (length returning) ≡ true
  may_retract none =
      let a = first_none (when (not (ltb p m.count)) NoSuchConstraint) _ (sym none) in
      let b = first_none (when (not (is_present s.engine.constraints p)) NotIn) _ a.1 in
      let l : Lending (lengths_of waiting returning) (spent s.engine.domains.clock) = lending (lengths_of waiting returning) (spent s.engine.domains.clock) b.1 in
      let one : p < m.count = ltb-true p m.count (not-false (ltb p m.count) (when_none (not (ltb p m.count)) NoSuchConstraint a.0)) in
      and_from (ltb p 128) _ (lt-ltb p 128 (omega (arith, lawful.few)))
      (and_from (is_present s.engine.constraints p) _ (not-false (is_present s.engine.constraints p) (when_none (not (is_present s.engine.constraints p)) NotIn b.0))
      (and_from (not (ltb (length waiting) 128)) _ (ap not l.waiting)
      (and_from (not (ltb (length returning) 2048)) _ (ap not l.returning) (ap not l.time))))

  in_is : None ≡ retract_cause m s p (lengths_of waiting returning) → is_present s.engine.constraints p ≡ true
  in_is none =
      let a = first_none (when (not (ltb p m.count)) NoSuchConstraint) _ (sym none) in
      let b = first_none (when (not (is_present s.engine.constraints p)) NotIn) _ a.1 in
      not-false (is_present s.engine.constraints p) (when_none (not (is_present s.engine.constraints p)) NotIn b.0)

  module _ (s' : State) where
    -- what the engine did to a known constraint keeps the link
    linked_after : (s₁ : State) (b : Bool) → Linked m s₁ → get_or s₁.known p false ≡ true → s'.engine.constraints ≡ with_present s₁.engine.constraints p b → s'.variables ≡ s₁.variables → s'.known ≡ s₁.known → Linked m s'
    linked_after s₁ b l h e v k =
        let P : Constraints → ℕ → Type 0 = λ c w. Links m c w s₁.known in
        let Q : List Bool → Type 0 = λ w. Links m s'.engine.constraints s'.variables w in
        subst Q (sym k) (subst₂ P (sym e) (sym v) (links_set m s₁.engine.constraints s₁.variables s₁.known p b h l))

    pub add_took
        : (s₁ : State) (r : Result Change Refusal) → None ≡ add_cause m s p (lengths_of waiting returning) → Learnt m p s s₁
        → MatchResult r (λ v. Added s₁.engine.constraints s'.engine.constraints s₁.engine.domains s'.engine.domains p v.values)
        (λ _. can_add s₁.engine.constraints s₁.engine.domains p (length waiting) ≡ false)
        → IfOk r (λ v. WipedOut (shown s'.engine.domains) s₁.variables v.wiped)
        → s'.variables ≡ s₁.variables → s'.known ≡ s₁.known → Took m s (adds p (lengths_of waiting returning)) (answer_by Changed r) s'
    add_took s₁ (Err e) none learnt cannot wiped v k = absurd (both_ways (can_add s₁.engine.constraints s₁.engine.domains p (length waiting)) cannot (may_add s₁ none learnt))
    add_took s₁ (Ok ch) none learnt did wiped v k =
        let c : Constraints = s.engine.constraints in
        let c₁ : Constraints = s₁.engine.constraints in
        let c' : Constraints = s'.engine.constraints in
        let d : Domains = s.engine.domains in
        let d' : Domains = s'.engine.domains in
        let same : s'.variables ≡ s.variables = v ∙ learnt.variables in
        let after : Linked m s' = linked_after s₁ true learnt.linked learnt.known did.constraints v k in
        let A : Domains → Type 0 = λ w. Added c₁ c' w d' p ch.values in
        let M : ℕ → Type 0 = λ w. Step m (moment_of s) (adds p (lengths_of waiting returning)) (Changed ch) (moment c' d' w) in
        record {
          linked = after;
          step =
              subst M (sym same)
              (step_add m lawful c c₁ c' d d' s.variables s.known s'.known p ch.values (lengths_of waiting returning) ch.wiped linked
              (subst (λ w. Links m c' w s'.known) same after) learnt.sizes learnt.present
              (subst (λ w. p < w) (sym s₁.engine.constraints.present_long) (omega (arith, (learnt.linked.means p learnt.known).is_one, lawful.few)))
              s'.engine.constraints.sizes_long
              (subst (λ w. WipedOut (shown d') w ch.wiped) learnt.variables wiped)
              (refusal-adds ∙ sym none) (subst A learnt.domains did));
        }

    pub retract_took
        : (r : Result Change Refusal) → None ≡ retract_cause m s p (lengths_of waiting returning)
        → MatchResult r (λ v. Retracted s.engine.constraints s'.engine.constraints s.engine.domains s'.engine.domains p v.values)
        (λ _. can_retract s.engine.constraints s.engine.domains p (length waiting) (length returning) ≡ false)
        → IfOk r (λ v. WipedOut (shown s'.engine.domains) s.variables v.wiped)
        → s'.variables ≡ s.variables → s'.known ≡ s.known → Took m s (retracts p (lengths_of waiting returning)) (answer_by Changed r) s'
    retract_took (Err e) none cannot wiped v k = absurd (both_ways (can_retract s.engine.constraints s.engine.domains p (length waiting) (length returning)) cannot (may_retract none))
    retract_took (Ok ch) none did wiped v k =
        let c : Constraints = s.engine.constraints in
        let c' : Constraints = s'.engine.constraints in
        let d : Domains = s.engine.domains in
        let d' : Domains = s'.engine.domains in
        let known : get_or s.known p false ≡ true = linked.present p (in_is none) in
        let after : Linked m s' = linked_after s false linked known did.constraints v k in
        let M : ℕ → Type 0 = λ w. Step m (moment_of s) (retracts p (lengths_of waiting returning)) (Changed ch) (moment c' d' w) in
        record {
          linked = after;
          step =
              subst M (sym v)
              (step_retract m lawful c c c' d d' s.variables s.known s'.known p ch.values (lengths_of waiting returning) ch.wiped linked
              (subst (λ w. Links m c' w s'.known) v after) refl refl
              (subst (λ w. p < w) (sym s.engine.constraints.present_long) (omega (arith, (linked.means p known).is_one, lawful.few)))
              s'.engine.constraints.sizes_long wiped
              (sym none) refl (stands_in s).sound.justified did);
        }
