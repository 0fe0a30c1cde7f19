-- What a call of a writer makes of the beginning of a sheet that it has written.
use Rattle.std.specs.Prelude.{FitsSigned}
use Rattle.std.proofs.Common.{◌≡◌, ℕ, ◌+◌, ◌*◌, ◌/◌, ◌%◌, ◌^◌, ◌<◌, ◌≤◌, Bool, true, false, cond, List, [], ◌∷◌, ◌++◌, length, take, drop, Ok, Err, Result, sym, refl, ap, ◌∙◌, subst, arith, of_z, w16, w32}
use Rattle.std.specs.List.{flat_map, AllByRecursion}
use Rattle.std.proofs.lemmas.List.{append_assoc, append-nil, length-append, length-take-le, take_at}
use Rattle.std.proofs.lemmas.Bool.{ltb-false, and_parts, not-true}
use Rattle.sheet_format.specs.declared.found.Variable.{Variable}
use Rattle.sheet_format.specs.declared.writing.WriteFault.{WriteFault}
use Rattle.sheet_format.specs.declared.writing.WriteFault.TheVariants.{ShortBuffer, Closed}
use Rattle.sheet_format.specs.Numbers.{two, four, eight, number2}
use Rattle.sheet_format.specs.Value.{sum, table, add, retract}
use Rattle.sheet_format.specs.Encoding.{Raw, framed, variable_record, end_record, encode, Valid}
use Rattle.sheet_format.specs.Decoding.{rows_in, decode}
use Rattle.sheet_format.specs.Beginnings.{Begun, records_begun, bytes_begun, AllThere, nothing_begun, begun_tally, begun_sheet}
use Rattle.sheet_format.specs.Reading.{Shown, shows_end}
use Rattle.sheet_format.specs.Verdict.{Tally, Step, goes, ends, stops, step, variable_of, verdict}
use Rattle.sheet_format.specs.Writing.{Entry, heads, has_variable, has_constraint, has_move, ends_here, entry_record, WriterState, new_writer, lies_in, put_step, put, laid, PutsEntry}
use Rattle.sheet_format.specs.Written.{begun_with, Written, Whole, Grown, WhyRefused, Grows}
use Rattle.sheet_law.proofs.NumberLaws.{two_back, Bytes}
use Rattle.sheet_law.proofs.Held.{GoesHeld, goes_held, end_held}
use Rattle.sheet_law.proofs.Shows.{KindIs, kind_is}
use Rattle.sheet_law.proofs.Tallies.{past, same_begun, bytes_more, place_more, complete_is}
use Rattle.sheet_law.proofs.Rows.{rows_there}
use Rattle.sheet_law.proofs.Refusing.{end_shows, end_stays, last_kind, why_refused}
use Rattle.sheet_law.proofs.Items.{sum_back}
use Rattle.sheet_law.proofs.Extending.{begun_with_raw, Extends, extends}
use Rattle.sheet_law.proofs.Sheets.{ended_bytes, begun_valid}
use Rattle.sheet_law.proofs.Laws.{decode-encode, encoded_accepted, nothing_keeps}

-- the bytes up to the end of those laid down
take_laid : (place : ℕ) (bytes xs : List ℕ) → place ≤ length xs → take (place + length bytes) (laid place bytes xs) ≡ take place xs ++ bytes
take_laid place bytes xs l =
    let few = length-take-le place xs l in
    let long = length-append (take place xs) bytes in
    ap (take (place + length bytes)) (sym (append_assoc (take place xs) bytes (drop (place + length bytes) xs)))
    ∙ take_at (take place xs ++ bytes) (drop (place + length bytes) xs) (place + length bytes) (omega arith)

-- what lies in a buffer
pub lies_is : (size after : ℕ) → lies_in size after ≡ true → (after ≤ size) × (after ≤ 65535)
lies_is size after e = let p = and_parts _ _ e in (ltb-false size after (not-true _ p.0), ltb-false 65535 after (not-true _ p.1))

lies_low : (size place long more : ℕ) → lies_in size (place + long + more) ≡ true → place ≤ size
lies_low size place long more e = let p = lies_is size (place + long + more) e in omega (arith, p.0)

-- the step of a record that was put, and what it makes of the writer
pub data Put (p : WriterState) (size after : ℕ) (st : Step) (q : WriterState) : Type 0 where
  put_on : (h : Tally) → st ≡ goes h → q ≡ record { tally = h; place = after; is_open = true } → lies_in size (after + 4) ≡ true → Put p size after st q
  put_end : st ≡ ends → q ≡ record { tally = p.tally; place = after; is_open = false } → lies_in size after ≡ true → Put p size after st q

fits_there : (t : Bool) (r q : WriterState) → ◌≡◌ {A = Result WriterState WriteFault} (cond t (Ok r) (Err ShortBuffer)) (Ok q) → (t ≡ true) × (q ≡ r)
fits_there true r q e = (refl, cc)
fits_there false r q e = absurd (let z : ◌≡◌ {A = ℕ} 0 1 = cc in omega arith)

by_step : (p : WriterState) (size after : ℕ) (st : Step) (q : WriterState) → put_step p size after st ≡ Ok q → Put p size after st q
by_step p size after (goes h) q e = let t = fits_there _ _ q e in put_on h refl t.1 t.0
by_step p size after ends q e = let t = fits_there _ _ q e in put_end refl t.1 t.0
by_step p size after (stops cause) q e = absurd (let z : ◌≡◌ {A = ℕ} 0 1 = cc in omega arith)

was_open : (t : Bool) (r : Result WriterState WriteFault) (q : WriterState) → cond t r (Err Closed) ≡ Ok q → r ≡ Ok q
was_open true r q e = e
was_open false r q e = absurd (let z : ◌≡◌ {A = ℕ} 0 1 = cc in omega arith)

pub put_is : (p : WriterState) (size : ℕ) (s : Shown) (long : ℕ) (q : WriterState) → put p size s long ≡ Ok q → Put p size (p.place + long) (step p.tally s (p.place + long)) q
put_is p size s long q e = by_step p size (p.place + long) (step p.tally s (p.place + long)) q (was_open p.is_open _ q e)

-- the numbers of an entry fit into their fields
abbrev pub Fields : Entry → Type 0
Fields (heads n) = n < 65536
Fields (has_variable v) = (v.size < 65536) × (v.house < 65536)
Fields (has_constraint (sum a b m k lo hi)) = (a < 256) × (b < 256) × FitsSigned w16 m × FitsSigned w16 k × FitsSigned w32 lo × FitsSigned w32 hi
Fields (has_constraint (table a b rows)) = (a < 256) × (b < 256) × AllByRecursion (λ row. row < 2 ^ 64) rows
Fields (has_move (add p)) = p < 65536
Fields (has_move (retract p)) = p < 65536
Fields ends_here = Unit {0}

-- the record of an entry: its bytes, and what they say
two_bytes : (n : ℕ) (rest : List ℕ) → Bytes rest → Bytes (two n ++ rest)
two_bytes n rest b = (omega arith, (omega arith, b))

four_bytes : (n : ℕ) (rest : List ℕ) → Bytes rest → Bytes (four n ++ rest)
four_bytes n rest b = two_bytes (n % 65536) (two (n / 65536) ++ rest) (two_bytes (n / 65536) rest b)

rows_bytes : (rows : List ℕ) → Bytes (flat_map eight rows)
rows_bytes [] = tt
rows_bytes (row ∷ rows) = four_bytes (row % 4294967296) (four (row / 4294967296) ++ flat_map eight rows) (four_bytes (row / 4294967296) (flat_map eight rows) (rows_bytes rows))

entry_bytes : (e : Entry) → Fields e → Bytes (entry_record e).body
entry_bytes (heads n) f = two_bytes 1 (two n) (two_bytes n [] tt)
entry_bytes (has_variable v) f = two_bytes v.size (two v.house) (two_bytes v.house [] tt)
entry_bytes (has_constraint (sum a b m k lo hi)) f =
    (f.0, (f.1, two_bytes (of_z w16 m) (two (of_z w16 k) ++ (four (of_z w32 lo) ++ four (of_z w32 hi))) (two_bytes (of_z w16 k) (four (of_z w32 lo) ++ four (of_z w32 hi)) (four_bytes (of_z w32 lo) (four (of_z w32 hi)) (four_bytes (of_z w32 hi) [] tt)))))
entry_bytes (has_constraint (table a b rows)) f = (f.0, (f.1, rows_bytes rows))
entry_bytes (has_move (add p)) f = two_bytes p [] tt
entry_bytes (has_move (retract p)) f = two_bytes p [] tt
entry_bytes ends_here f = tt

variable_back : (v : Variable) → v.size < 65536 → v.house < 65536 → variable_of (variable_record v).body ≡ v
variable_back v s h =
    let size : number2 (variable_record v).body 0 ≡ v.size = two_back v.size (two v.house) s in
    let house : number2 (variable_record v).body 2 ≡ v.house = two_back v.house [] h in
    ap (λ x. record { size = x; house = number2 (variable_record v).body 2 }) size ∙ ap (λ x. record { size = v.size; house = x }) house

entry_with_raw : (b : Begun) (e : Entry) → Fields e → begun_with_raw b (entry_record e) ≡ begun_with b e
entry_with_raw b (heads n) f = same_begun _ _ _ _ _ _ _ _ (two_back n [] f) (append-nil b.variables) (append-nil b.constraints) (append-nil b.moves)
entry_with_raw b (has_variable v) f =
    same_begun _ _ _ _ _ _ _ _ refl (ap (λ x. b.variables ++ (x ∷ [])) (variable_back v f.0 f.1)) (append-nil b.constraints) (append-nil b.moves)
entry_with_raw b (has_constraint (sum l r m k lo hi)) f =
    same_begun _ _ _ _ _ _ _ _ refl (append-nil b.variables) (ap (λ x. b.constraints ++ (x ∷ [])) (sum_back l r m k lo hi f.2 f.3 f.4 f.5).0) (append-nil b.moves)
entry_with_raw b (has_constraint (table l r rows)) f =
    let there = rows_there 64 rows [] (omega arith) f.2 in
    let long : length (flat_map eight rows) ≡ 8 * length rows = there.2 in
    let count : length (flat_map eight rows) / 8 ≡ length rows = omega arith in
    let same : rows_in (length rows) (flat_map eight rows) ≡ rows = subst (λ xs. rows_in (length rows) xs ≡ rows) (append-nil (flat_map eight rows)) there.1 in
    same_begun _ _ _ _ _ _ _ _ refl (append-nil b.variables)
    (ap (λ x. b.constraints ++ (table l r (rows_in x (flat_map eight rows)) ∷ [])) count ∙ ap (λ x. b.constraints ++ (table l r x ∷ [])) same) (append-nil b.moves)
entry_with_raw b (has_move (add p)) f =
    same_begun _ _ _ _ _ _ _ _ refl (append-nil b.variables) (append-nil b.constraints) (ap (λ x. b.moves ++ (add x ∷ [])) (two_back p [] f))
entry_with_raw b (has_move (retract p)) f =
    same_begun _ _ _ _ _ _ _ _ refl (append-nil b.variables) (append-nil b.constraints) (ap (λ x. b.moves ++ (retract x ∷ [])) (two_back p [] f))
entry_with_raw b ends_here f = same_begun _ _ _ _ _ _ _ _ refl (append-nil b.variables) (append-nil b.constraints) (append-nil b.moves)

module _ (b : Begun) (p : WriterState) (xs : List ℕ) (w : Written b p xs) (raw : Raw) (ys : List ℕ) (same : ys ≡ laid p.place (framed raw) xs) where
  -- the bytes before the place reached
  bytes_there : p.place ≤ length xs → take (p.place + length (framed raw)) ys ≡ bytes_begun b ++ framed raw
  bytes_there l = ap (take (p.place + length (framed raw))) same ∙ take_laid p.place (framed raw) xs l ∙ ap (λ zs. zs ++ framed raw) w.bytes

  goes_on : (s : Shown) → KindIs raw.kind raw.body s → Bytes raw.body → (q : WriterState) (h : Tally) → step p.tally s (p.place + length (framed raw)) ≡ goes h
      → q ≡ record { tally = h; place = p.place + length (framed raw); is_open = true } → p.place ≤ length xs → Written (begun_with_raw b raw) q ys
  goes_on s kind low q h st made l =
      let reached = w.reached in
      let far : past (length (bytes_begun b)) raw ≡ p.place + length (framed raw) = omega arith in
      let held : GoesHeld (begun_tally b) s (past (length (bytes_begun b)) raw) h =
      goes_held (begun_tally b) s (past (length (bytes_begun b)) raw) h
      (ap (step (begun_tally b) s) far ∙ ap (λ g. step g s (p.place + length (framed raw))) (sym w.tallied) ∙ st) in
      let x : Extends b raw h = extends b w.keeps raw low h s kind held in
      let more : bytes_begun x.next ≡ bytes_begun b ++ framed raw = ap (flat_map framed) x.more ∙ bytes_more (records_begun b) raw in
      let long : length (bytes_begun x.next) ≡ past (length (bytes_begun b)) raw = ap (λ rs. length (flat_map framed rs)) x.more ∙ place_more (records_begun b) raw in
      let next : Written x.next q ys =
      record {
        keeps = x.keeps;
        tallied = ap (λ z. z.tally) made ∙ x.tallied;
        reached = ap (λ z. z.place) made ∙ sym far ∙ sym long;
        bytes = ap (λ z. take z.place ys) made ∙ bytes_there l ∙ sym more;
      } in
      subst (λ z. Written z q ys) x.move_of next

whole : (b : Begun) (p : WriterState) (xs : List ℕ) → Written b p xs → (ys : List ℕ) → ys ≡ laid p.place (framed end_record) xs → (place : ℕ) → place ≡ p.place + 4
    → step p.tally (shows_end []) (p.place + 4) ≡ ends → p.place ≤ length xs → p.place + 4 ≤ 65535 → Whole b place ys
whole b p xs w ys same place at s l short =
    let reached = w.reached in
    let held = end_held (begun_tally b) (shows_end []) (p.place + 4) (ap (λ g. step g (shows_end []) (p.place + 4)) (sym w.tallied) ∙ s) in
    let all : AllThere b = complete_is b w.keeps held.0 in
    let there : take place ys ≡ encode (begun_sheet b) = ap (λ n. take n ys) at ∙ bytes_there b p xs w end_record ys same l ∙ ended_bytes b all in
    let long = sym (ap length (ended_bytes b all)) ∙ length-append (bytes_begun b) (framed end_record) in
    let v : Valid (begun_sheet b) = begun_valid b w.keeps all (omega arith) in
    record { valid = v; reached = omega arith; bytes = there; accepted = ap verdict there ∙ encoded_accepted (begun_sheet b) v; back = ap decode there ∙ decode-encode (begun_sheet b) v }

module _ (b : Begun) (p : WriterState) (xs : List ℕ) (w : Written b p xs) (q : WriterState) (ys : List ℕ) (place : ℕ) where
  -- an entry that is not the end
  one_more : (e : Entry) → Fields e → ((entry_record e).kind ≡ 7 → ⊥) → PutsEntry p xs e q ys (Ok place) → Written (begun_with b e) q ys
  one_more e f not_last (s, shows, puts) = by (put_is p (length xs) s (length (framed (entry_record e))) q puts.0)
    where
      by : Put p (length xs) (p.place + length (framed (entry_record e))) (step p.tally s (p.place + length (framed (entry_record e)))) q → Written (begun_with b e) q ys
      by (put_on h st made fits) =
          subst (λ z. Written z q ys) (entry_with_raw b e f)
          (goes_on b p xs w (entry_record e) ys puts.2 s (kind_is _ _ p.place s shows) (entry_bytes e f) q h st made (lies_low (length xs) p.place (length (framed (entry_record e))) 4 fits))
      by (put_end st made fits) = absurd (not_last (last_kind e p.tally p.place (p.place + length (framed (entry_record e))) s shows st))

  the_last : PutsEntry p xs ends_here q ys (Ok place) → Whole b place ys
  the_last (s, shows, puts) = by (put_is p (length xs) s 4 q puts.0)
    where
      same : s ≡ shows_end []
      same = end_shows p.place s shows

      by : Put p (length xs) (p.place + 4) (step p.tally s (p.place + 4)) q → Whole b place ys
      by (put_on h st made fits) = absurd (end_stays p.tally p.place (p.place + 4) s h shows st)
      by (put_end st made fits) =
          let l = lies_is (length xs) (p.place + 4) fits in
          whole b p xs w ys puts.2 place (puts.1 ∙ ap (λ z. z.place) made) (subst (λ t. step p.tally t (p.place + 4) ≡ ends) same st) (omega (arith, l.0)) (omega (arith, l.1))

  grown : (e : Entry) → Fields e → PutsEntry p xs e q ys (Ok place) → Grown b e q ys place
  grown (heads n) f puts = one_more (heads n) f (λ k. omega arith) puts
  grown (has_variable v) f puts = one_more (has_variable v) f (λ k. omega arith) puts
  grown (has_constraint (sum l r m k lo hi)) f puts = one_more (has_constraint (sum l r m k lo hi)) f (λ k. omega arith) puts
  grown (has_constraint (table l r rows)) f puts = one_more (has_constraint (table l r rows)) f (λ k. omega arith) puts
  grown (has_move (add i)) f puts = one_more (has_move (add i)) f (λ k. omega arith) puts
  grown (has_move (retract i)) f puts = one_more (has_move (retract i)) f (λ k. omega arith) puts
  grown ends_here f puts = the_last puts

-- after any call that puts an entry, one entry more is written, or the sheet is whole, or what was written is as it was, and it is said why
pub grows : (b : Begun) (p : WriterState) (xs : List ℕ) (q : WriterState) (ys : List ℕ) (e : Entry) (r : Result ℕ WriteFault) → Fields e → Written b p xs → PutsEntry p xs e q ys r → Grows b e q ys r
grows b p xs q ys e (Ok place) f w puts = grown b p xs w q ys place e f puts
grows b p xs q ys e (Err fault) f w (s, shows, puts) =
    subst (λ z. Written b z ys × WhyRefused b e z (length ys) fault) (sym puts.1)
    (subst (λ zs. Written b p zs × WhyRefused b e p (length zs) fault) (sym puts.2) (w, why_refused b p xs w (length xs) e s shows fault puts.0))

-- a writer that has written nothing
pub nothing_written : (xs : List ℕ) → Written nothing_begun new_writer xs
nothing_written xs = record { keeps = nothing_keeps; tallied = refl; reached = refl; bytes = refl }

-- an end that is put closes the writer
pub end_closes : (p : WriterState) (xs : List ℕ) (q : WriterState) (ys : List ℕ) (place : ℕ) → PutsEntry p xs ends_here q ys (Ok place) → q.is_open ≡ false
end_closes p xs q ys place (s, shows, puts) = by (put_is p (length xs) s 4 q puts.0)
  where
    by : Put p (length xs) (p.place + 4) (step p.tally s (p.place + 4)) q → q.is_open ≡ false
    by (put_on h st made fits) = absurd (end_stays p.tally p.place (p.place + 4) s h shows st)
    by (put_end st made fits) = ap (λ z. z.is_open) made
