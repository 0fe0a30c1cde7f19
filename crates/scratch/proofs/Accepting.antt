-- The check of a list of indices, one more index at a time.
use Rattle.std.proofs.Common.{◌≡◌, ℕ, zero, suc, ◌+◌, ◌<◌, ◌≤◌, true, false, cond, ◌&&◌, eqb, ltb, leb, List, [], ◌∷◌, length, get_or, drop, Some, None, Option, sym, refl, ap, ◌∙◌, subst, ⊎_elim, le_of_suc-le-suc, not-suc-le-zero}
use Rattle.std.proofs.lemmas.List.{at_drop_more, at_drop_all}
use Rattle.std.proofs.lemmas.Bool.{leb-true, and_parts, both_ways, eqb-true, ltb-true, or_cases}
use Rattle.catalog.specs.Meaning.{Meaning}
use Rattle.catalog.specs.Causes.{first, sizes_refusal, constraint_refusal}
use Rattle.catalog.specs.declared.refusal.Refusal.{Refusal}
use Rattle.catalog.specs.declared.refusal.Refusal.TheVariants.{NoSuchConstraint, EndOutside, ShortResult}
use Rattle.catalog.proofs.Sizes.{Fitting, sizes_accepted, first_none, cond_none}
use Rattle.scratch.specs.Named.{named}
use Rattle.scratch.specs.Refused.{indices_refusal, refusal}
use Rattle.scratch.specs.Rows.{Bounded}

pub indices_more
    : (m : Meaning) (n : ℕ) (ps : List ℕ) (i : ℕ) → i < length ps
    → indices_refusal m n (drop i ps) ≡ first (constraint_refusal m n (get_or ps i 0)) (indices_refusal m n (drop (i + 1) ps))
indices_more m n ps i h = at_drop_more (indices_refusal m n) ps i 0 h

-- an index that passes
pub indices_pass
    : (m : Meaning) (n : ℕ) (ps : List ℕ) (i : ℕ) → i < length ps → None ≡ constraint_refusal m n (get_or ps i 0)
    → indices_refusal m n (drop i ps) ≡ indices_refusal m n ps → indices_refusal m n (drop (i + 1) ps) ≡ indices_refusal m n ps
indices_pass m n ps i h pass e =
    ap (λ o. first o (indices_refusal m n (drop (i + 1) ps))) pass ∙ sym (indices_more m n ps i h) ∙ e

-- an index that is refused
pub indices_stop
    : (m : Meaning) (n : ℕ) (ps : List ℕ) (i : ℕ) (e : Refusal) → i < length ps → Some e ≡ constraint_refusal m n (get_or ps i 0)
    → indices_refusal m n (drop i ps) ≡ indices_refusal m n ps → Some e ≡ indices_refusal m n ps
indices_stop m n ps i e h stop same =
    ap (λ o. first o (indices_refusal m n (drop (i + 1) ps))) stop ∙ sym (indices_more m n ps i h) ∙ same

pub indices_end
    : (m : Meaning) (n : ℕ) (ps : List ℕ) (i : ℕ) → length ps ≤ i → indices_refusal m n (drop i ps) ≡ indices_refusal m n ps
    → None ≡ indices_refusal m n ps
indices_end m n ps i h e = sym (at_drop_all (indices_refusal m n) ps i h) ∙ e

-- ---- what is known where the indices are accepted

pub indices_each
    : (m : Meaning) (n : ℕ) (ps : List ℕ) → indices_refusal m n ps ≡ None → (i : ℕ) → i < length ps
    → constraint_refusal m n (get_or ps i 0) ≡ None
indices_each m n [] e i h = absurd (not-suc-le-zero h)
indices_each m n (p ∷ ps) e zero h = (first_none (constraint_refusal m n p) (indices_refusal m n ps) e).0
indices_each m n (p ∷ ps) e (suc i) h =
    indices_each m n ps (first_none (constraint_refusal m n p) (indices_refusal m n ps) e).1 i (le_of_suc-le-suc h)

-- each constraint named is one of the catalog's, between two of the variables
pub record Between (m : Meaning) (n p : ℕ) : Type 0 where
  pub is_one : p < m.count
  pub left : m.left p < n
  pub right : m.right p < n

pub constraint_between : (m : Meaning) (n p : ℕ) → constraint_refusal m n p ≡ None → Between m n p
constraint_between m n p e =
    let t = cond_none (ltb p m.count) (cond (ltb (m.left p) n && ltb (m.right p) n) None (Some EndOutside)) NoSuchConstraint e in
    let u = cond_none (ltb (m.left p) n && ltb (m.right p) n) None EndOutside t.1 in
    let v = and_parts (ltb (m.left p) n) (ltb (m.right p) n) u.0 in
    record {
      is_one = ltb-true p m.count t.0;
      left = ltb-true (m.left p) n v.0;
      right = ltb-true (m.right p) n v.1;
    }

pub named_between : (m : Meaning) (n : ℕ) (ps : List ℕ) → indices_refusal m n ps ≡ None → (p : ℕ) → named ps p ≡ true → Between m n p
named_between m n [] e p h = absurd (both_ways false refl h)
named_between m n (q ∷ ps) e p h =
    let t = first_none (constraint_refusal m n q) (indices_refusal m n ps) e in
    ⊎_elim (λ s. subst (λ j. Between m n j) (eqb-true q p s) (constraint_between m n q t.0)) (λ s. named_between m n ps t.1 p s)
    (or_cases (eqb q p) (named ps p) h)

-- what is known where nothing refuses the arguments
pub record Accepted (m : Meaning) (sizes indices : List ℕ) (entries : ℕ) : Type 0 where
  pub fitting : Fitting sizes
  pub bounded : Bounded sizes
  pub each : indices_refusal m (length sizes) indices ≡ None
  pub wide : length sizes ≤ entries

pub accepted : (m : Meaning) (sizes indices : List ℕ) (entries : ℕ) → None ≡ refusal m sizes indices entries → Accepted m sizes indices entries
accepted m sizes indices entries e =
    let later : Option Refusal = cond (leb (length sizes) entries) None (Some ShortResult) in
    let p = first_none (sizes_refusal sizes) (first (indices_refusal m (length sizes) indices) later) (sym e) in
    let q = first_none (indices_refusal m (length sizes) indices) later p.1 in
    let f : Fitting sizes = sizes_accepted sizes p.0 in
    record {
      fitting = f;
      bounded = λ i h. (f.each i h).1;
      each = q.0;
      wide = leb-true (length sizes) entries (cond_none (leb (length sizes) entries) None ShortResult q.1).0;
    }
