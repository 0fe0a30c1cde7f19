-- Where no record can be taken off some bytes, it is for what the cause says.
use Rattle.std.proofs.Common.{◌≡◌, ℕ, ◌≤◌, Bool, true, false, cond, ◌||◌, eqb, ltb, List, length, take, drop, Some, None, Option, ◌≢◌, sym, refl, ap, subst, inl, inr, ⊎_elim, arith}
use Rattle.std.proofs.lemmas.List.{nil_from_length}
use Rattle.std.proofs.lemmas.Bool.{eqb-true, eqb-false, ltb-true, ltb-false, or_cases, or_parts}
use Rattle.sheet_format.specs.declared.faults.RecordCause.{RecordCause}
use Rattle.sheet_format.specs.declared.faults.RecordCause.TheVariants.{Missing, BadLength, UnknownKind}
use Rattle.sheet_format.specs.declared.kinds.Kind.{Kind}
use Rattle.sheet_format.specs.declared.kinds.Kind.TheVariants.{Heading, Variable, Sum, Table, Add, Retract, End}
use Rattle.sheet_format.specs.Numbers.{number2}
use Rattle.sheet_format.specs.Kinds.{kind_number}
use Rattle.sheet_format.specs.Faults.{record_number}
use Rattle.sheet_format.specs.Beginnings.{Begun}
use Rattle.sheet_format.specs.Rules.{Wrong, none_left, cut_off, no_kind}
use Rattle.sheet_format.specs.Reading.{Shown, shown, broken, taken_if, reading}
use Rattle.sheet_law.proofs.NumberLaws.{Bytes}
use Rattle.sheet_law.proofs.Framing.{Cut, cut_again}

same_cause : (c d : RecordCause) → broken c ≡ broken d → d ≡ c
same_cause c d e = cc

not_none : (s : Shown) → ◌≡◌ {A = Option Shown} (Some s) None → ⊥
not_none s e = let z : ◌≡◌ {A = ℕ} 0 1 = cc in omega arith

-- what shows no record is of no kind
unknown : (number : ℕ) (body : List ℕ) (place : ℕ) → shown number body place ≡ None → (kind : Kind) → kind_number kind ≢ number
unknown number body place e kind same = by kind (subst (λ n. shown n body place ≡ None) (sym same) e)
  where
    by : (k : Kind) → shown (kind_number k) body place ≡ None → ⊥
    by Heading h = not_none _ h
    by Variable h = not_none _ h
    by Sum h = not_none _ h
    by Table h = not_none _ h
    by Add h = not_none _ h
    by Retract h = not_none _ h
    by End h = not_none _ h

nothing_taken : (o : Option Shown) (rest : List ℕ) (cause : RecordCause) → taken_if o rest ≡ broken cause → (o ≡ None) × (cause ≡ UnknownKind)
nothing_taken None rest cause e = (refl, same_cause UnknownKind cause e)
nothing_taken (Some s) rest cause e = absurd (let z : ◌≡◌ {A = ℕ} 0 1 = cc in omega arith)

module _ (xs : List ℕ) (place : ℕ) (b : Begun) (bytes : Bytes xs) (cause : RecordCause) where
  whole : 4 ≤ number2 xs 0 → number2 xs 0 ≤ length xs → taken_if (shown (number2 xs 2) (drop 4 (take (number2 xs 0) xs)) place) (drop (number2 xs 0) xs) ≡ broken cause
      → Wrong (record_number cause) b xs
  whole low most e =
      let p = nothing_taken _ _ cause e in
      let c : Cut xs (number2 xs 0) = cut_again xs (number2 xs 0) bytes low most refl in
      no_kind (ap record_number p.1) c.raw (record { after = drop (number2 xs 0) xs; same = c.same; kind_low = c.short.kind_low; length_low = c.short.length_low })
      (subst (λ n. (kind : Kind) → kind_number kind ≢ n) (sym c.kind) (unknown (number2 xs 2) _ place p.0))

  lengthy : 4 ≤ length xs → (t : Bool) → (ltb (number2 xs 0) 4 || ltb (length xs) (number2 xs 0)) ≡ t
      → cond t (broken BadLength) (taken_if (shown (number2 xs 2) (drop 4 (take (number2 xs 0) xs)) place) (drop (number2 xs 0) xs)) ≡ broken cause
      → Wrong (record_number cause) b xs
  lengthy long true t e =
      cut_off (ap record_number (same_cause BadLength cause e))
      (record { some = (let l = long in omega arith); few = inr (⊎_elim (λ h. inl (ltb-true _ _ h)) (λ h. inr (ltb-true _ _ h)) (or_cases _ _ t)) })
  lengthy long false t e = let p = or_parts (ltb (number2 xs 0) 4) (ltb (length xs) (number2 xs 0)) t in whole (ltb-false _ _ p.0) (ltb-false _ _ p.1) e

  some_there : 1 ≤ length xs → (t : Bool) → ltb (length xs) 4 ≡ t
      → cond t (broken BadLength) (cond (ltb (number2 xs 0) 4 || ltb (length xs) (number2 xs 0)) (broken BadLength) (taken_if (shown (number2 xs 2) (drop 4 (take (number2 xs 0) xs)) place) (drop (number2 xs 0) xs))) ≡ broken cause
      → Wrong (record_number cause) b xs
  some_there some true t e = cut_off (ap record_number (same_cause BadLength cause e)) (record { some = some; few = inl (ltb-true _ _ t) })
  some_there some false t e = lengthy (ltb-false _ _ t) (ltb (number2 xs 0) 4 || ltb (length xs) (number2 xs 0)) refl e

  pub unread : reading xs place ≡ broken cause → Wrong (record_number cause) b xs
  unread e = by (eqb (length xs) 0) refl e
    where
      by : (t : Bool) → eqb (length xs) 0 ≡ t
          → cond t (broken Missing) (cond (ltb (length xs) 4) (broken BadLength) (cond (ltb (number2 xs 0) 4 || ltb (length xs) (number2 xs 0)) (broken BadLength) (taken_if (shown (number2 xs 2) (drop 4 (take (number2 xs 0) xs)) place) (drop (number2 xs 0) xs)))) ≡ broken cause
          → Wrong (record_number cause) b xs
      by true t f = none_left (ap record_number (same_cause Missing cause f)) (nil_from_length xs (eqb-true (length xs) 0 t))
      by false t f = let n = eqb-false (length xs) 0 t in some_there (omega arith) (ltb (length xs) 4) refl f
