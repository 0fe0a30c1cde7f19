-- The sheet that bytes hold is valid, or it is empty; what it means is lawful. It stands with the definitions since the catalog over the bytes has it as
-- its member `lawful`, and what a type's members cite stands there.
use Rattle.std.proofs.Common.{◌≡◌, ℕ, ◌<◌, ◌≤◌, Bool, true, false, cond, ltb, List, length, get_or, is_ok, Some, None, Ok, Err, Result, sym, refl, ap, ◌∙◌, subst, arith}
use Rattle.std.proofs.ByRecursion.{All-get_or}
use Rattle.std.proofs.lemmas.Bool.{ltb-true}
use Rattle.catalog.specs.Meaning.{Meaning, Lawful, GoodEnds, ends_of}
use Rattle.sheet_format.specs.declared.found.Summary.{Summary}
use Rattle.sheet_format.specs.declared.found.Variable.{Variable}
use Rattle.sheet_format.specs.declared.faults.SheetFault.{SheetFault}
use Rattle.sheet_format.specs.Value.{Constraint, sum, table, Sheet, ValidEnds, ValidConstraint}
use Rattle.sheet_format.specs.Encoding.{encode, Valid}
use Rattle.sheet_format.specs.Decoding.{decode}
use Rattle.sheet_format.specs.Verdict.{verdict}
use Rattle.sheet_format.specs.Law.{Law, Encodes}
use Rattle.sheet_law.proofs.Laws.{law_at}
use Rattle.sheet_catalog.specs.Meant.{left_end, right_end, no_constraint, constraint_at, meaning_of, empty_sheet, sheet_in}

-- accepted bytes hold the sheet that they encode
pub accepted_in : (bytes : List ℕ) (z : Summary) → Ok z ≡ verdict bytes → sheet_in bytes ≡ decode bytes
accepted_in bytes z e = sym (ap (λ v. cond (is_ok v) (decode bytes) empty_sheet) e)

pub refused_in : (bytes : List ℕ) (f : SheetFault) → Err f ≡ verdict bytes → sheet_in bytes ≡ empty_sheet
refused_in bytes f e = sym (ap (λ v. cond (is_ok v) (decode bytes) empty_sheet) e)

-- the sheet in bytes is the one that they encode, or there is none
pub data Holds (bytes : List ℕ) : Type 0 where
  a_sheet : Valid (sheet_in bytes) → encode (sheet_in bytes) ≡ bytes → Holds bytes
  no_sheet : sheet_in bytes ≡ empty_sheet → Holds bytes

pub holds : (bytes : List ℕ) → ((k : ℕ) → get_or bytes k 0 < 256) → Holds bytes
holds bytes low = by (verdict bytes) refl
  where
    by : (r : Result Summary SheetFault) → verdict bytes ≡ r → Holds bytes
    by (Ok z) e =
        let l : Encodes bytes z = subst (Law bytes) e (law_at bytes low) in
        let same : sheet_in bytes ≡ decode bytes = accepted_in bytes z (sym e) in
        a_sheet (subst Valid (sym same) l.valid) (ap encode same ∙ l.same)
    by (Err f) e = no_sheet (refused_in bytes f (sym e))

-- a constraint of a valid sheet
pub constraint_valid : (s : Sheet) (p : ℕ) → Valid s → p < length s.constraints → ValidConstraint s.variables (constraint_at s p)
constraint_valid s p v h = All-get_or (ValidConstraint s.variables) s.constraints p no_constraint h v.constraints_valid

pub ends_are : (vs : List Variable) (c : Constraint) → ValidConstraint vs c → ValidEnds (length vs) (left_end c) (right_end c)
ends_are vs (sum a b m k lo hi) v = v.ends
ends_are vs (table a b rows) v = v.ends

pub valid_lawful : (s : Sheet) → Valid s → Lawful (meaning_of s)
valid_lawful s v =
    let few : length s.constraints ≤ 96 = v.few_constraints in
    let n : length s.variables ≤ 32 = v.few_variables in
    let at : (p : ℕ) → p < length s.constraints → ValidEnds (length s.variables) (left_end (constraint_at s p)) (right_end (constraint_at s p)) =
    λ p h. ends_are s.variables (constraint_at s p) (constraint_valid s p v h) in
    record {
      few = omega arith;
      left_low = λ p h. let l = (at p h).a_low in omega arith;
      right_low = λ p h. let l = (at p h).b_low in omega arith;
      apart = λ p h. (at p h).apart;
    }

pub empty_lawful : Lawful (meaning_of empty_sheet)
empty_lawful = record {
  few = omega arith;
  left_low = λ p h. absurd (omega arith);
  right_low = λ p h. absurd (omega arith);
  apart = λ p h. absurd (omega arith);
}

-- what bytes mean is lawful
pub bytes_lawful : (bytes : List ℕ) → ((k : ℕ) → get_or bytes k 0 < 256) → Lawful (meaning_of (sheet_in bytes))
bytes_lawful bytes low = by (holds bytes low)
  where
    by : Holds bytes → Lawful (meaning_of (sheet_in bytes))
    by (a_sheet v e) = valid_lawful (sheet_in bytes) v
    by (no_sheet e) = subst (λ s. Lawful (meaning_of s)) (sym e) empty_lawful

-- where there is a constraint, the sheet is valid
pub valid_with_constraint : (bytes : List ℕ) (p : ℕ) → ((k : ℕ) → get_or bytes k 0 < 256) → p < length (sheet_in bytes).constraints → Valid (sheet_in bytes)
valid_with_constraint bytes p low h = by (holds bytes low)
  where
    by : Holds bytes → Valid (sheet_in bytes)
    by (a_sheet v e) = v
    by (no_sheet e) = absurd (let z : length (sheet_in bytes).constraints ≡ 0 = ap (λ s. length s.constraints) e in omega arith)

-- how many constraints an accepted sheet has
pub counted_in : (bytes : List ℕ) (z : Summary) → Ok z ≡ verdict bytes → Encodes bytes z → z.constraints ≡ length (sheet_in bytes).constraints
counted_in bytes z e l = ap (λ v. v.constraints) l.sums_up ∙ sym (ap (λ s. length s.constraints) (accepted_in bytes z e))

-- a lawful meaning gives good ends
pub good_ends : (m : Meaning) (p : ℕ) → Lawful m → GoodEnds (ends_of m p)
good_ends m p f = by (ltb p m.count) refl
  where
    by : (b : Bool) → ltb p m.count ≡ b → GoodEnds (cond b (Some (m.left p, m.right p)) None)
    by true t = let h : p < m.count = ltb-true p m.count t in (f.left_low p h, f.right_low p h, f.apart p h)
    by false t = tt
