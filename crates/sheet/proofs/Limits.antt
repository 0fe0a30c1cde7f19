-- A writer's variables have at most 64 values, so a table of more rows is refused however many they are.
use Rattle.std.proofs.Common.{◌≡◌, ℕ, zero, suc, ◌+◌, ◌*◌, ◌<◌, ◌≤◌, min, Bool, true, false, cond, eqb, List, [], ◌∷◌, ◌++◌, length, take, Some, Ok, Err, Result, sym, refl, ap, ◌∙◌, subst, ⊎_elim, arith}
use Rattle.std.specs.List.{flat_map}
use Rattle.std.proofs.lemmas.Bool.{ne_eqb, le-ltb, cond-false, cases_lt}
use Rattle.std.proofs.Math.Seq.{take-length}
use Rattle.std.proofs.lemmas.List.{length-take-le}
use Rattle.sheet_format.specs.declared.found.Variable.{Variable}
use Rattle.sheet_format.specs.declared.faults.Cause.{Cause}
use Rattle.sheet_format.specs.declared.faults.Cause.TheVariants.{TooManyConstraints, WrongLength, BadEnds, BadRow}
use Rattle.sheet_format.specs.declared.writing.WriteFault.{WriteFault}
use Rattle.sheet_format.specs.declared.writing.WriteFault.TheVariants.{Format, Closed}
use Rattle.sheet_format.specs.Numbers.{eight}
use Rattle.sheet_format.specs.Value.{size_at, table}
use Rattle.sheet_format.specs.Encoding.{framed}
use Rattle.sheet_format.specs.Reading.{shows_table, shown}
use Rattle.sheet_format.specs.Verdict.{Tally, Step, goes, stops, unless, ends_good, rows_good, with_constraint, constraint_step, constraints_due, step}
use Rattle.sheet_format.specs.Writing.{WriterState, put, put_step, has_constraint, entry_record, Puts, PutsEntry}
use Rattle.sheet.specs.Sizes.{SizesLow}
use Rattle.sheet.proofs.Entries.{same_shown}

pub low_push : (vs : List Variable) (v : Variable) → SizesLow vs → v.size ≤ 64 → SizesLow (vs ++ (v ∷ []))
low_push [] v low few zero = few
low_push [] v low few (suc i) = omega arith
low_push (w ∷ vs) v low few zero = low 0
low_push (w ∷ vs) v low few (suc i) = low_push vs v (λ j. low (suc j)) few i

pub rows_long : (rows : List ℕ) → length (flat_map eight rows) ≡ 8 * length rows
rows_long [] = refl
rows_long (r ∷ rs) = let k = rows_long rs in omega arith

-- why a table of more rows than 64 is refused
wrong_rows : (g : Tally) (a b : ℕ) → Step
wrong_rows g a b = constraint_step g (unless (ends_good g.n a b) BadEnds (stops WrongLength))

record Stops (s : Step) : Type 0 where
  cause : Cause
  there : s ≡ stops cause

stops_at : (t : Bool) (c : Cause) (s : Step) → Stops s → Stops (unless t c s)
stops_at true c s h = h
stops_at false c s h = record { cause = c; there = refl }

stopped : (g : Tally) (a b : ℕ) → Stops (wrong_rows g a b)
unfolding wrong_rows
stopped g a b =
    stops_at (constraints_due g) _ _ (stops_at _ TooManyConstraints _ (stops_at (ends_good g.n a b) BadEnds _ (record { cause = WrongLength; there = refl })))

too_many : (g : Tally) (a b : ℕ) (rows : List ℕ) (at after : ℕ) → SizesLow g.variables → 65 ≤ length rows → step g (shows_table a b (flat_map eight rows) at) after ≡ wrong_rows g a b
unfolding wrong_rows
too_many g a b rows at after low many =
    let few = low a in
    let long = rows_long rows in
    let differs : eqb (length (flat_map eight rows)) (8 * size_at g.variables a) ≡ false = ne_eqb _ _ (λ e. omega arith) in
    ap (λ s. constraint_step g (unless (ends_good g.n a b) BadEnds s))
    (cond-false (eqb (length (flat_map eight rows)) (8 * size_at g.variables a)) (unless (rows_good (size_at g.variables a) (size_at g.variables b) (flat_map eight rows)) BadRow (goes (with_constraint g after))) (stops WrongLength) differs)

-- so it is refused as its first 65 rows are
refused : (p : WriterState) (size long at a b : ℕ) (rows : List ℕ) → SizesLow p.tally.variables → 65 ≤ length rows
    → put p size (shows_table a b (flat_map eight rows) at) long ≡ cond p.is_open (Err (Format (stopped p.tally a b).cause)) (Err Closed)
refused p size long at a b rows low many =
    ap (λ s. cond p.is_open (put_step p size (p.place + long) s) (Err Closed)) (too_many p.tally a b rows at _ low many ∙ (stopped p.tally a b).there)

-- what the record of a table shows
table_shows : (a b : ℕ) (rows : List ℕ) (place : ℕ) → shown 4 (a ∷ (b ∷ rows)) place ≡ Some (shows_table a b rows (place + 6))
table_shows a b rows place = ap Some (cond-false _ _ _ (le-ltb (length (a ∷ (b ∷ rows))) 2 (omega arith)))

not_taken : (t : Bool) (c : Cause) (q : WriterState) → ◌≡◌ {A = Result WriterState WriteFault} (cond t (Err (Format c)) (Err Closed)) (Ok q) → ⊥
not_taken true c q e = let z : ◌≡◌ {A = ℕ} 0 1 = cc in omega arith
not_taken false c q e = let z : ◌≡◌ {A = ℕ} 0 1 = cc in omega arith

same_refusal : (p : WriterState) (xs : List ℕ) (a b : ℕ) (rows : List ℕ) (q : WriterState) (ys : List ℕ) (r : Result ℕ WriteFault) → SizesLow p.tally.variables → 65 ≤ length rows
    → PutsEntry p xs (has_constraint (table a b (take 65 rows))) q ys r → PutsEntry p xs (has_constraint (table a b rows)) q ys r
same_refusal p xs a b rows q ys r low many (s, shows, puts) =
    by r (subst (λ t. Puts p xs t (framed (entry_record (has_constraint (table a b (take 65 rows))))) q ys r) (same_shown s (shows_table a b (flat_map eight (take 65 rows)) (p.place + 6)) (sym shows ∙ table_shows a b (flat_map eight (take 65 rows)) p.place)) puts)
  where
    first : (long : ℕ) → put p (length xs) (shows_table a b (flat_map eight (take 65 rows)) (p.place + 6)) long ≡ cond p.is_open (Err (Format (stopped p.tally a b).cause)) (Err Closed)
    first long = let short = length-take-le 65 rows many in refused p (length xs) long (p.place + 6) a b (take 65 rows) low (omega arith)

    by : (t : Result ℕ WriteFault) → Puts p xs (shows_table a b (flat_map eight (take 65 rows)) (p.place + 6)) (framed (entry_record (has_constraint (table a b (take 65 rows))))) q ys t → PutsEntry p xs (has_constraint (table a b rows)) q ys t
    by (Ok place) so = absurd (not_taken p.is_open (stopped p.tally a b).cause q (sym (first _) ∙ so.0))
    by (Err fault) so =
        (shows_table a b (flat_map eight rows) (p.place + 6), table_shows a b (flat_map eight rows) p.place, (refused p (length xs) _ (p.place + 6) a b rows low many ∙ sym (first _) ∙ so.0, so.1, so.2))

pub few_rows : (p : WriterState) (xs : List ℕ) (a b many : ℕ) (rows : List ℕ) (q : WriterState) (ys : List ℕ) (r : Result ℕ WriteFault) → SizesLow p.tally.variables → many ≡ min (length rows) 65
    → PutsEntry p xs (has_constraint (table a b (take many rows))) q ys r → PutsEntry p xs (has_constraint (table a b rows)) q ys r
few_rows p xs a b many rows q ys r low e puts = ⊎_elim fewer more (cases_lt (length rows) 65)
  where
    fewer : length rows < 65 → PutsEntry p xs (has_constraint (table a b rows)) q ys r
    fewer l =
        let n : many ≡ length rows = omega arith in
        subst (λ rs. PutsEntry p xs (has_constraint (table a b rs)) q ys r) (ap (λ k. take k rows) n ∙ take-length rows) puts

    more : 65 ≤ length rows → PutsEntry p xs (has_constraint (table a b rows)) q ys r
    more l =
        let n : many ≡ 65 = omega arith in
        same_refusal p xs a b rows q ys r low l (subst (λ k. PutsEntry p xs (has_constraint (table a b (take k rows))) q ys r) n puts)
