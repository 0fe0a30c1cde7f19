-- What is wrong with bytes after a beginning of a sheet is what a walk over them finds.
use Rattle.std.proofs.Common.{◌≡◌, ℕ, suc, true, false, ◌||◌, eqb, ltb, List, length, None, Err, ◌≢◌, sym, ap, ◌∙◌, ⊎_elim, arith}
use Rattle.std.proofs.lemmas.Bool.{cases_Bool, cond-true, cond-false, ne_eqb, lt-ltb, or_left, or_right}
use Rattle.sheet_format.specs.declared.faults.RecordCause.{RecordCause}
use Rattle.sheet_format.specs.declared.faults.RecordCause.TheVariants.{Missing, BadLength, UnknownKind}
use Rattle.sheet_format.specs.declared.faults.SheetFault.{SheetFault}
use Rattle.sheet_format.specs.declared.kinds.Kind.{Kind}
use Rattle.sheet_format.specs.declared.kinds.Kind.TheVariants.{Heading, Variable, Sum, Table, Add, Retract, End}
use Rattle.sheet_format.specs.Numbers.{number2}
use Rattle.sheet_format.specs.Kinds.{kind_number}
use Rattle.sheet_format.specs.Faults.{record_number, fault_number, fault_byte, fault_records}
use Rattle.sheet_format.specs.Encoding.{Raw}
use Rattle.sheet_format.specs.Beginnings.{Begun, Keeps, begun_tally}
use Rattle.sheet_format.specs.Rules.{Stands, CutOff, Wrong, none_left, cut_off, no_kind, breaks_rule}
use Rattle.sheet_format.specs.Law.{Says}
use Rattle.sheet_format.specs.Reading.{shown, broken, taken_if, reading}
use Rattle.sheet_format.specs.Verdict.{Verdict, after_step, after_reading, walked}
use Rattle.sheet_law.proofs.Framing.{Short, framed_read}
use Rattle.sheet_law.proofs.Tallies.{past}
use Rattle.sheet_law.proofs.Walks.{first_step, same_fault}
use Rattle.sheet_law.proofs.Breaking.{OfKind, of_kind}

-- a number that no kind has shows no record
pub unknown : (number : ℕ) (body : List ℕ) (place : ℕ) → ((kind : Kind) → kind_number kind ≢ number) → shown number body place ≡ None
unknown number body place none =
    let not : (kind : Kind) → eqb number (kind_number kind) ≡ false = λ kind. ne_eqb number (kind_number kind) (λ e. none kind (sym e)) in
    cond-false (eqb number 1) _ _ (not Heading)
    ∙ cond-false (eqb number 2) _ _ (not Variable)
    ∙ cond-false (eqb number 3) _ _ (not Sum)
    ∙ cond-false (eqb number 4) _ _ (not Table)
    ∙ cond-false (eqb number 5) _ _ (not Add)
    ∙ cond-false (eqb number 6) _ _ (not Retract)
    ∙ cond-false (eqb number 7) _ _ (not End)

-- what is cut off is not read
cut_read : (xs : List ℕ) (place : ℕ) → CutOff xs → reading xs place ≡ broken BadLength
cut_read xs place c =
    let some = c.some in
    cond-false (eqb (length xs) 0) _ _ (ne_eqb (length xs) 0 (λ z. omega arith))
    ∙ ⊎_elim (λ t. cond-true (ltb (length xs) 4) _ _ t) (λ t. cond-false (ltb (length xs) 4) _ _ t ∙ cond-true _ _ _ (long t)) (cases_Bool (ltb (length xs) 4))
  where
    long : ltb (length xs) 4 ≡ false → (ltb (number2 xs 0) 4 || ltb (length xs) (number2 xs 0)) ≡ true
    long t =
        ⊎_elim (λ h. absurd (let y : false ≡ true = sym t ∙ lt-ltb (length xs) 4 h in let z : ◌≡◌ {A = ℕ} 0 1 = cc in omega arith))
        (⊎_elim (λ h. or_left _ _ (lt-ltb (number2 xs 0) 4 h)) (λ h. or_right _ _ (lt-ltb (length xs) (number2 xs 0) h))) c.few

pub says : (number : ℕ) (e f : SheetFault) → number ≡ fault_number e → ◌≡◌ {A = Verdict} (Err e) (Err f) → Says f number (fault_byte e) (fault_records e)
says number e f n h =
    let same : e ≡ f = same_fault e f h in
    record { number_is = n ∙ ap fault_number same; byte_is = ap fault_byte same; records_are = ap fault_records same }

module _ (b : Begun) (k : Keeps b) (place n most number : ℕ) (f : SheetFault) where
  not_read : (xs : List ℕ) (cause : RecordCause) → reading xs place ≡ broken cause → number ≡ record_number cause → walked (suc most) xs place n (begun_tally b) ≡ Err f → Says f number place n
  unfolding walked
  not_read xs cause e m v = says number _ f m (sym (ap (after_reading (walked most) (begun_tally b) place n (length xs)) e) ∙ v)

  short : (r : Raw) (xs : List ℕ) → Stands r xs → Short r
  short r xs s = record { kind_low = s.kind_low; length_low = s.length_low }

  pub wrong_found : (xs : List ℕ) → Wrong number b xs → walked (suc most) xs place n (begun_tally b) ≡ Err f → Says f number place n
  wrong_found xs (none_left m empty) v = not_read xs Missing (ap (λ ys. reading ys place) empty) m v
  wrong_found xs (cut_off m c) v = not_read xs BadLength (cut_read xs place c) m v
  wrong_found xs (no_kind m r s none) v =
      not_read xs UnknownKind
      (ap (λ ys. reading ys place) s.same ∙ framed_read r s.after place (short r xs s) ∙ ap (λ o. taken_if o s.after) (unknown r.kind r.body place none)) m v
  wrong_found xs (breaks_rule r s kind same first) v =
      let o : OfKind b k kind r.body place (past place r) = of_kind b k kind r.body place (past place r) in
      let stop = o.breaks.there number first in
      says number _ f stop.2
      (sym
      (ap (λ ys. walked (suc most) ys place n (begun_tally b)) s.same
      ∙ first_step r s.after (begun_tally b) place n most o.shows (short r xs s) (ap (λ m. shown m r.body place) (sym same) ∙ o.shown_so)
      ∙ ap (after_step (walked most) (begun_tally b) place n s.after (past place r)) stop.1)
      ∙ v)
