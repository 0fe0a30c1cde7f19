-- The rules for one record more after a beginning of a sheet, and what is wrong where it stops.
use Rattle.std.specs.Prelude.{◌≡◌, ℕ, ◌+◌, ◌*◌, ◌^◌, ◌<◌, ◌≤◌, ◌⊎◌, List, [], ◌∷◌, ◌++◌, length, drop, ℤ, pos, negsuc, ◌≤ℤ◌, ◌≢◌, slice_index}
use Rattle.std.proofs.Common.{to_z}
use Rattle.std.specs.Int.{w16, w32}
use Rattle.std.specs.List.{AllByRecursion}
use Rattle.sheet_format.specs.declared.faults.RecordCause.TheVariants.{Missing, BadLength, UnknownKind}
use Rattle.sheet_format.specs.declared.faults.Cause.{Cause}
use Rattle.sheet_format.specs.declared.faults.Cause.TheVariants.{OutOfTurn, TooManyConstraints, WrongLength, BadHeading, BadSize, BadHouse, BadEnds, BadSum, BadRow}
use Rattle.sheet_format.specs.declared.kinds.Kind.{Kind}
use Rattle.sheet_format.specs.declared.kinds.Kind.TheVariants.{Heading, Variable, Sum, Table, Add, Retract, End}
use Rattle.sheet_format.specs.Numbers.{number2, number4}
use Rattle.sheet_format.specs.Kinds.{kind_number}
use Rattle.sheet_format.specs.Faults.{record_number, cause_number}
use Rattle.sheet_format.specs.Value.{size_at, house_at, ValidEnds}
use Rattle.sheet_format.specs.Encoding.{Raw, framed}
use Rattle.sheet_format.specs.Decoding.{rows_in}
use Rattle.sheet_format.specs.Beginnings.{Begun, AllThere}

-- a rule for a record, and the cause for which a record is refused that breaks it
pub record Rule : Type 1 where
  pub cause : Cause
  pub holds : Type 0

abbrev pub rule : Cause → Type 0 → Rule
rule cause holds = record { cause = cause; holds = holds }

-- what a heading says: the start word is 1, and there are 1 to 32 variables
pub record HeadingSays (body : List ℕ) : Type 0 where
  pub start : number2 body 0 ≡ 1
  pub some : 1 ≤ number2 body 2
  pub few : number2 body 2 ≤ 32

-- a variable has 1 to 64 values
pub record SizeGiven (size : ℕ) : Type 0 where
  pub some : 1 ≤ size
  pub few : size ≤ 64

-- a house number is below n, and no variable so far has it
pub record HouseFree (b : Begun) (house : ℕ) : Type 0 where
  pub low : house < b.n
  pub free : (i : ℕ) → i < length b.variables → house_at b.variables i ≢ house

-- the factors are from -1,000 to 1,000, and the limits are in order
pub record FormulaFits (m k lo hi : ℤ) : Type 0 where
  pub m_low : negsuc 999 ≤ℤ m
  pub m_high : m ≤ℤ pos 1000
  pub k_low : negsuc 999 ≤ℤ k
  pub k_high : k ≤ℤ pos 1000
  pub ordered : lo ≤ℤ hi

-- the ends that a constraint's body begins with are two different variables
abbrev pub EndsGiven : Begun → List ℕ → Type 0
EndsGiven b body = ValidEnds b.n (slice_index body 0) (slice_index body 1)

-- the formula in a sum's body has such factors and limits
abbrev pub FormulaGiven : List ℕ → Type 0
FormulaGiven body = FormulaFits (to_z w16 (number2 body 2)) (to_z w16 (number2 body 4)) (to_z w32 (number4 body 6)) (to_z w32 (number4 body 10))

-- how many values the ends of a table have
abbrev pub left_size : Begun → List ℕ → ℕ
left_size b body = size_at b.variables (slice_index body 0)

abbrev pub right_size : Begun → List ℕ → ℕ
right_size b body = size_at b.variables (slice_index body 1)

-- no row has a bit at or above the number of values of the second end
abbrev pub RowsFit : Begun → List ℕ → Type 0
RowsFit b body = AllByRecursion (λ row. row < 2 ^ right_size b body) (rows_in (left_size b body) (drop 2 body))

-- constraints may come: all variables are there, and no move has come
pub record ConstraintDue (b : Begun) : Type 0 where
  pub variables_there : AllThere b
  pub no_move : b.moves ≡ []

-- The rules for any constraint: it is due, and at most the 96th. Those for what it says follow.
abbrev pub constraint_rules : Begun → List Rule → List Rule
constraint_rules b more = rule OutOfTurn (ConstraintDue b) ∷ (rule TooManyConstraints (length b.constraints < 96) ∷ more)

-- The rules for a record after a beginning, by its kind and its body, in the order in which they are judged. A table needs its ends before its full
-- length can be known.
abbrev pub rules : Begun → Kind → List ℕ → List Rule
rules b Heading body = rule OutOfTurn (b.n ≡ 0) ∷ (rule WrongLength (length body ≡ 4) ∷ (rule BadHeading (HeadingSays body) ∷ []))
rules b Variable body =
    rule OutOfTurn (length b.variables < b.n)
    ∷ (rule WrongLength (length body ≡ 4)
    ∷ (rule BadSize (SizeGiven (number2 body 0)) ∷ (rule BadHouse (HouseFree b (number2 body 2)) ∷ [])))
rules b Sum body =
    constraint_rules b
    (rule WrongLength (length body ≡ 14) ∷ (rule BadEnds (EndsGiven b body) ∷ (rule BadSum (FormulaGiven body) ∷ [])))
rules b Table body =
    constraint_rules b
    (rule WrongLength (2 ≤ length body)
    ∷ (rule BadEnds (EndsGiven b body)
    ∷ (rule WrongLength (length body ≡ 2 + 8 * left_size b body) ∷ (rule BadRow (RowsFit b body) ∷ []))))
rules b Add body = rule OutOfTurn (AllThere b) ∷ (rule WrongLength (length body ≡ 2) ∷ [])
rules b Retract body = rule OutOfTurn (AllThere b) ∷ (rule WrongLength (length body ≡ 2) ∷ [])
rules b End body = rule OutOfTurn (AllThere b) ∷ (rule WrongLength (length body ≡ 0) ∷ [])

-- the first of the rules that is broken has this number
abbrev pub FirstBroken : ℕ → List Rule → Type 0
FirstBroken number [] = ⊥
FirstBroken number (r ∷ rs) = ((number ≡ cause_number r.cause) × (r.holds → ⊥)) ⊎ (r.holds × FirstBroken number rs)

-- no rule is broken
abbrev pub AllKept : List Rule → Type 0
AllKept [] = Unit {0}
AllKept (r ∷ rs) = r.holds × AllKept rs

-- bytes begin with this record, which is whole
pub record Stands (r : Raw) (xs : List ℕ) : Type 0 where
  pub after : List ℕ
  pub same : xs ≡ framed r ++ after
  pub kind_low : r.kind < 65536
  pub length_low : 4 + length r.body < 65536

-- some bytes are left, but no whole record: there are under four, or their length is under four or past the bytes left
pub record CutOff (xs : List ℕ) : Type 0 where
  pub some : 1 ≤ length xs
  pub few : (length xs < 4) ⊎ ((number2 xs 0 < 4) ⊎ (length xs < number2 xs 0))

-- What is wrong with the rest of the bytes after a beginning, by the number of the cause: nothing is left, or no whole record, or a record of no
-- kind, or one that breaks a rule.
pub data Wrong (number : ℕ) (b : Begun) (rest : List ℕ) : Type 0 where
  none_left : number ≡ record_number Missing → rest ≡ [] → Wrong number b rest
  cut_off : number ≡ record_number BadLength → CutOff rest → Wrong number b rest
  no_kind : number ≡ record_number UnknownKind → (r : Raw) → Stands r rest → ((kind : Kind) → kind_number kind ≢ r.kind) → Wrong number b rest
  breaks_rule : (r : Raw) → Stands r rest → (kind : Kind) → kind_number kind ≡ r.kind → FirstBroken number (rules b kind r.body) → Wrong number b rest
