-- What stands in a buffer of which a writer has written a beginning of a sheet, and what stands there when it has ended.
use Rattle.std.specs.Prelude.{◌≡◌, ℕ, ◌+◌, ◌<◌, ◌⊎◌, true, false, List, [], ◌∷◌, ◌++◌, length, take, Ok, Err, Result}
use Rattle.sheet_format.specs.declared.writing.WriteFault.{WriteFault}
use Rattle.sheet_format.specs.declared.writing.WriteFault.TheVariants.{Format, ShortBuffer, Closed}
use Rattle.sheet_format.specs.declared.kinds.Kind.{Kind}
use Rattle.sheet_format.specs.declared.kinds.Kind.TheVariants.{Heading, Variable, Sum, Table, Add, Retract, End}
use Rattle.sheet_format.specs.Value.{sum, table, add, retract}
use Rattle.sheet_format.specs.Faults.{cause_number}
use Rattle.sheet_format.specs.Encoding.{framed, encode, Valid}
use Rattle.sheet_format.specs.Decoding.{decode}
use Rattle.sheet_format.specs.Beginnings.{Begun, bytes_begun, Keeps, begun_tally, begun_sheet}
use Rattle.sheet_format.specs.Verdict.{verdict}
use Rattle.sheet_format.specs.Law.{summary_of}
use Rattle.sheet_format.specs.Rules.{Rule, rules, FirstBroken, AllKept}
use Rattle.sheet_format.specs.Writing.{Entry, heads, has_variable, has_constraint, has_move, ends_here, entry_record, WriterState}

-- what is begun, with an entry more; the end adds nothing
abbrev pub begun_with : Begun → Entry → Begun
begun_with b (heads n) = record { n = n; variables = b.variables; constraints = b.constraints; moves = b.moves }
begun_with b (has_variable v) = record { n = b.n; variables = b.variables ++ (v ∷ []); constraints = b.constraints; moves = b.moves }
begun_with b (has_constraint c) = record { n = b.n; variables = b.variables; constraints = b.constraints ++ (c ∷ []); moves = b.moves }
begun_with b (has_move m) = record { n = b.n; variables = b.variables; constraints = b.constraints; moves = b.moves ++ (m ∷ []) }
begun_with b ends_here = b

-- The writer has written this beginning of a sheet into the buffer so far: it keeps every rule, the writer's tally is of it, and the bytes before
-- the place reached are its own.
pub record Written (b : Begun) (p : WriterState) (buffer : List ℕ) : Type 0 where
  pub keeps : Keeps b
  pub tallied : p.tally ≡ begun_tally b
  pub reached : p.place ≡ length (bytes_begun b)
  pub bytes : take p.place buffer ≡ bytes_begun b

-- The bytes before a place are the sheet that this beginning is with the end after it, and all of it lies there: the check accepts them, and they read
-- back as that sheet.
pub record Whole (b : Begun) (place : ℕ) (buffer : List ℕ) : Type 0 where
  pub valid : Valid (begun_sheet b)
  pub reached : place ≡ length (encode (begun_sheet b))
  pub bytes : take place buffer ≡ encode (begun_sheet b)
  pub accepted : verdict (take place buffer) ≡ Ok (summary_of (begun_sheet b))
  pub back : decode (take place buffer) ≡ begun_sheet b

-- what is written after an entry was put where this beginning was written: one entry more, or the whole sheet
abbrev pub Grown : Begun → Entry → WriterState → List ℕ → ℕ → Type 0
Grown b (heads n) q ys place = Written (begun_with b (heads n)) q ys
Grown b (has_variable v) q ys place = Written (begun_with b (has_variable v)) q ys
Grown b (has_constraint c) q ys place = Written (begun_with b (has_constraint c)) q ys
Grown b (has_move m) q ys place = Written (begun_with b (has_move m)) q ys
Grown b ends_here q ys place = Whole b place ys

-- the kind of an entry's record
abbrev pub entry_kind : Entry → Kind
entry_kind (heads n) = Heading
entry_kind (has_variable v) = Variable
entry_kind (has_constraint (sum a b m k lo hi)) = Sum
entry_kind (has_constraint (table a b rows)) = Table
entry_kind (has_move (add p)) = Add
entry_kind (has_move (retract p)) = Retract
entry_kind ends_here = End

-- the rules for its record after a beginning
abbrev pub entry_rules : Begun → Entry → List Rule
entry_rules b e = rules b (entry_kind e) (entry_record e).body

-- how many bytes are kept for the end after an entry
abbrev pub kept_after : Entry → ℕ
kept_after (heads n) = 4
kept_after (has_variable v) = 4
kept_after (has_constraint c) = 4
kept_after (has_move m) = 4
kept_after ends_here = 0

-- what ends before this place passes the end of a buffer of so many bytes, or of the largest sheet
abbrev pub Passes : ℕ → ℕ → Type 0
Passes size after = (size < after) ⊎ (65535 < after)

-- Why an entry is refused where a beginning is written: its record breaks the rule of this number, and none before it; or it keeps every rule, and with
-- what is kept for the end it passes the buffer's end or a sheet's; or the writer is no longer open.
abbrev pub WhyRefused : Begun → Entry → WriterState → ℕ → WriteFault → Type 0
WhyRefused b e p size (Format cause) = (p.is_open ≡ true) × FirstBroken (cause_number cause) (entry_rules b e)
WhyRefused b e p size ShortBuffer =
    (p.is_open ≡ true) × AllKept (entry_rules b e) × Passes size (p.place + length (framed (entry_record e)) + kept_after e)
WhyRefused b e p size Closed = p.is_open ≡ false

-- the same of any answer: a refusal leaves what was written, and says why
abbrev pub Grows : Begun → Entry → WriterState → List ℕ → Result ℕ WriteFault → Type 0
Grows b e q ys (Ok place) = Grown b e q ys place
Grows b e q ys (Err fault) = Written b q ys × WhyRefused b e q (length ys) fault
