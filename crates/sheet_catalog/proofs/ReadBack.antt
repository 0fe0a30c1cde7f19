-- What is read where a constraint begins is that constraint.
use Rattle.std.proofs.Common.{◌≡◌, ℕ, ◌<◌, Bool, true, false, cond, ltb, List, length, get_or, drop, Some, None, sym, refl, ap, ◌∙◌, subst, arith}
use Rattle.std.specs.List.{AllByRecursion}
use Rattle.std.proofs.lemmas.Bool.{le-ltb, cond-false, cond-true}
use Rattle.catalog.specs.Meaning.{ends_of, GoodEnds}
use Rattle.sheet_format.specs.declared.found.Variable.{Variable}
use Rattle.sheet_format.specs.Value.{Constraint, sum, table, Sheet, ValidVariable, ValidConstraint}
use Rattle.sheet_format.specs.Encoding.{Raw, framed, constraint_record, Valid}
use Rattle.sheet_format.specs.Reading.{shows_short_table, shown, reading, taken_if}
use Rattle.sheet_law.proofs.Framing.{Short, framed_read}
use Rattle.sheet_law.proofs.Laws.{constraint_back}
use Rattle.sheet_catalog.specs.Meant.{left_end, right_end, constraint_at, meaning_of, sheet_in}
use Rattle.sheet_catalog.specs.StartsAt.{BeginsAt}
use Rattle.sheet_catalog.specs.Lawfulness.{valid_with_constraint, constraint_valid, bytes_lawful, good_ends}
use Rattle.sheet_catalog.proofs.Read.{begun_rest, constraint_short}
use Rattle.sheet_catalog.specs.Viewed.{meant_by, meant, constraint_shown, constraint_read}
use Rattle.sheet_catalog.specs.declared.SheetCatalog.{SheetCatalog}
use Rattle.sheet_catalog.specs.declared.view.Constraint as view
use Rattle.sheet_catalog.specs.declared.view.Pairs.{Pairs}
use Rattle.sheet_catalog.specs.declared.view.Pairs.TheVariants.{Sum, Table}

-- the record of a constraint shows it
shows : (vs : List Variable) (c : Constraint) (place : ℕ) (rest : List ℕ) → AllByRecursion (ValidVariable (length vs)) vs → ValidConstraint vs c
    → constraint_read (taken_if (shown (constraint_record c).kind (constraint_record c).body place) rest) ≡ Some c
shows vs (sum a b m k lo hi) place rest valid v = constraint_back vs (sum a b m k lo hi) valid v
shows vs (table a b rows) place rest valid v =
    let body : List ℕ = (constraint_record (table a b rows)).body in
    ap (λ t. constraint_shown t) (cond-false (ltb (length body) 2) (shows_short_table body) _ (le-ltb (length body) 2 (omega arith)))
    ∙ constraint_back vs (table a b rows) valid v

read_there : (s : Sheet) (p : ℕ) (bytes : List ℕ) (start place : ℕ) → Valid s → p < length s.constraints → BeginsAt bytes start (constraint_record (constraint_at s p))
    → constraint_read (reading (drop start bytes) place) ≡ Some (constraint_at s p)
read_there s p bytes start place v h e =
    let c : Constraint = constraint_at s p in
    let r : Raw = constraint_record c in
    let valid : ValidConstraint s.variables (constraint_at s p) = constraint_valid s p v h in
    let short : Short (constraint_record (constraint_at s p)) = constraint_short s.variables c v.variables_valid valid in
    let rest : List ℕ = drop (length (framed r)) (drop start bytes) in
    ap (λ ys. constraint_read (reading ys place)) (begun_rest bytes start r e)
    ∙ ap constraint_read (framed_read r rest place short)
    ∙ shows s.variables c place rest v.variables_valid valid

-- the same where a catalog has it
pub found_there : (s : SheetCatalog) (p : ℕ) → p < s.count
    → constraint_read (reading (drop (get_or s.starts p 0) s.bytes.now) (get_or s.starts p 0)) ≡ Some (constraint_at (sheet_in s.bytes.now) p)
found_there s p h =
    let start : ℕ = get_or s.starts p 0 in
    let k : p < length (sheet_in s.bytes.now).constraints = subst (λ n. p < n) s.counted h in
    read_there (sheet_in s.bytes.now) p s.bytes.now start start (valid_with_constraint s.bytes.now p s.low k) k (s.begun p h)

left_meant : (a b : ℕ) (pairs : Pairs) → left_end (meant_by a b pairs) ≡ a
left_meant a b (Sum f) = refl
left_meant a b (Table rows) = refl

right_meant : (a b : ℕ) (pairs : Pairs) → right_end (meant_by a b pairs) ≡ b
right_meant a b (Sum f) = refl
right_meant a b (Table rows) = refl

-- the ends that the look-up of a constraint gives are those of the meaning
ends_there : (s : Sheet) (count p : ℕ) (k : view.Constraint) → count ≡ length s.constraints
    → Some (meant k) ≡ cond (ltb p count) (Some (constraint_at s p)) None → Some (k.left, k.right) ≡ ends_of (meaning_of s) p
ends_there s count p k e q = by (ltb p count) refl q
  where
    by : (t : Bool) → ltb p count ≡ t → Some (meant k) ≡ cond t (Some (constraint_at s p)) None → Some (k.left, k.right) ≡ ends_of (meaning_of s) p
    by true t q =
        let same : meant k ≡ constraint_at s p = cc in
        let l : k.left ≡ left_end (constraint_at s p) = sym (left_meant k.left k.right k.pairs) ∙ ap left_end same in
        let r : k.right ≡ right_end (constraint_at s p) = sym (right_meant k.left k.right k.pairs) ∙ ap right_end same in
        let there : ltb p (length s.constraints) ≡ true = ap (ltb p) (sym e) ∙ t in
        ap (λ a. Some (a, k.right)) l
        ∙ ap (λ b. Some (left_end (constraint_at s p), b)) r
        ∙ sym (cond-true (ltb p (length s.constraints)) (Some (left_end (constraint_at s p), right_end (constraint_at s p))) None there)
    by false t q = absurd (let z : ◌≡◌ {A = ℕ} 0 1 = cc in omega arith)

pub good_there : (s : SheetCatalog) (p : ℕ) (k : view.Constraint) → Some (meant k) ≡ cond (ltb p s.count) (Some (constraint_at (sheet_in s.bytes.now) p)) None
    → (k.left < 32) × (k.right < 32) × (k.left ≡ k.right → ⊥)
good_there s p k e =
    subst GoodEnds (sym (ends_there (sheet_in s.bytes.now) s.count p k s.counted e)) (good_ends (meaning_of (sheet_in s.bytes.now)) p (bytes_lawful s.bytes.now s.low))
