-- What a list of a writer's calls does, call by call, and what stands in the buffer after it.
use Rattle.std.specs.Prelude.{◌≡◌, ℕ, Bool, true, false, cond, List, [], ◌∷◌, ◌++◌, Some, None, Option, Ok, Err, Result}
use Rattle.sheet_format.specs.declared.writing.WriteFault.{WriteFault}
use Rattle.sheet_format.specs.Value.{sum, table, add, retract}
use Rattle.sheet_format.specs.Beginnings.{Begun, nothing_begun}
use Rattle.sheet_format.specs.Writing.{Entry, heads, has_variable, has_constraint, has_move, ends_here, WriterState, new_writer, PutsEntry, Abandons}
use Rattle.sheet_format.specs.Written.{begun_with, Written, Whole}
use Rattle.sheet.specs.declared.calls.Call.{Call}
use Rattle.sheet.specs.declared.calls.Call.TheVariants.{Heading, Variable, Sum, Table, Add, Retract, End, Abandon}

-- the entry that a call is to put, or nothing: it abandons the sheet
abbrev pub asked : Call → Option Entry
asked (Heading n) = Some (heads n)
asked (Variable v) = Some (has_variable v)
asked (Sum left right f) = Some (has_constraint (sum left right f.m f.k f.lo f.hi))
asked (Table left right rows) = Some (has_constraint (table left right rows.now))
asked (Add index) = Some (has_move (add index))
asked (Retract index) = Some (has_move (retract index))
asked End = Some ends_here
asked Abandon = None

-- one call: the writer and the buffer before and after it, and its answer
abbrev pub Makes : WriterState → List ℕ → Option Entry → WriterState → List ℕ → Result ℕ WriteFault → Type 0
Makes p xs (Some e) q ys r = PutsEntry p xs e q ys r
Makes p xs None q ys r = Abandons p q r × (ys ≡ xs)

-- the calls one after the other, each with its answer
abbrev pub Runs : WriterState → List ℕ → List Call → List (Result ℕ WriteFault) → WriterState → List ℕ → Type 0
Runs p xs [] [] q ys = (q ≡ p) × (ys ≡ xs)
Runs p xs [] (r ∷ rs) q ys = ⊥
Runs p xs (c ∷ cs) [] q ys = ⊥
Runs p xs (c ∷ cs) (r ∷ rs) q ys = (m : WriterState) × (zs : List ℕ) × Makes p xs (asked c) m zs r × Runs m zs cs rs q ys

-- an entry that was put, and the place that the call answered
pub record Placed : Type 0 where
  pub entry : Entry
  pub place : ℕ

-- what was put: the entries of the accepted calls
abbrev pub one_put : Option Entry → Result ℕ WriteFault → List Placed
one_put (Some e) (Ok place) = record { entry = e; place = place } ∷ []
one_put (Some e) (Err fault) = []
one_put None r = []

abbrev pub all_put : List Call → List (Result ℕ WriteFault) → List Placed
all_put [] rs = []
all_put (c ∷ cs) [] = []
all_put (c ∷ cs) (r ∷ rs) = one_put (asked c) r ++ all_put cs rs

-- what they begin, in their order
abbrev pub begun_from : Begun → List Placed → Begun
begun_from b [] = b
begun_from b (e ∷ es) = begun_from (begun_with b e.entry) es

abbrev pub begun_by : List Placed → Begun
begun_by es = begun_from nothing_begun es

abbrev pub is_the_end : Entry → Bool
is_the_end (heads n) = false
is_the_end (has_variable v) = false
is_the_end (has_constraint c) = false
is_the_end (has_move m) = false
is_the_end ends_here = true

-- the place that was answered to the end, if it is among them
abbrev pub end_place : List Placed → Option ℕ
end_place [] = None
end_place (e ∷ es) = cond (is_the_end e.entry) (Some e.place) (end_place es)

-- What stands in the buffer when these entries were put: a beginning of a sheet, or, if the end is among them, the whole sheet before the place that
-- was answered to the end, and the writer is closed.
pub data Stands (es : List Placed) (p : WriterState) (buffer : List ℕ) : Type 0 where
  unended : end_place es ≡ None → Written (begun_by es) p buffer → Stands es p buffer
  whole : (place : ℕ) → end_place es ≡ Some place → p.is_open ≡ false → Whole (begun_by es) place buffer → Stands es p buffer

-- A writer's calls were made on a buffer, which was `xs` and is `ys`; the entries that were put stand there.
pub record Wrote (xs : List ℕ) (calls : List Call) (answers : List (Result ℕ WriteFault)) (ys : List ℕ) : Type 0 where
  pub writer : WriterState
  pub runs : Runs new_writer xs calls answers writer ys
  pub stands : Stands (all_put calls answers) writer ys
