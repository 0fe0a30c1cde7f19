-- One record more of a sheet that is put into a buffer.
use Rattle.std.proofs.Common.{◌≡◌, ℕ, zero, suc, ◌+◌, ◌-◌, ◌<◌, ◌≤◌, min, Bool, true, false, cond, not, ◌&&◌, eqb, ltb, List, [], ◌++◌, length, drop, Some, Ok, Err, Result, sym, refl, ap, ◌∙◌, subst, ⊎_elim, inl, inr, ◌⊎◌, arith}
use Rattle.std.specs.List.{flat_map}
use Rattle.std.specs.Result.{IsOk}
use Rattle.sheet_format.specs.declared.faults.Fault.{Fault}
use Rattle.std.proofs.ByRecursion.{All-drop}
use Rattle.std.proofs.lemmas.List.{append_assoc, append-nil, length-append, length-drop, nil_from_length}
use Rattle.std.proofs.lemmas.Bool.{eqb-true, ltb-true, ltb-false}
use Rattle.sheet_format.specs.declared.found.Summary.{Summary}
use Rattle.sheet_format.specs.declared.faults.Cause.TheVariants.{TooLong, Trailing}
use Rattle.sheet_format.specs.declared.faults.SheetFault.{SheetFault}
use Rattle.sheet_format.specs.declared.faults.RecordCause.{RecordCause}
use Rattle.sheet_format.specs.declared.writing.WriteFault.{WriteFault}
use Rattle.sheet_format.specs.declared.writing.WriteFault.TheVariants.{ShortBuffer, Closed}
use Rattle.sheet_format.specs.Encoding.{Raw, framed}
use Rattle.sheet_format.specs.Beginnings.{Begun, records_begun, bytes_begun, Keeps, begun_tally, nothing_begun}
use Rattle.sheet_format.specs.Reading.{Shown, shown, Reading, taken, broken, reading}
use Rattle.sheet_format.specs.Verdict.{Tally, nothing_yet, Step, goes, ends, stops, step, summary, Verdict, format_fault, after_step, after_reading, walked}
use Rattle.sheet_format.specs.Writing.{entry_record, WriterState, new_writer, lies_in, put_step, put, laid, Puts, PutsRecord, PutsEntry}
use Rattle.sheet_law.proofs.NumberLaws.{Bytes}
use Rattle.sheet_law.proofs.Framing.{Short, took, Framed, framed_again, framed_first}
use Rattle.sheet_law.proofs.Held.{GoesHeld, goes_held, end_held}
use Rattle.sheet_law.proofs.Shows.{KindIs, kind_is}
use Rattle.sheet_law.proofs.Tallies.{past, bytes_more, place_more}
use Rattle.sheet_law.proofs.Extending.{Extends, extends}
use Rattle.sheet_law.proofs.Laws.{nothing_keeps}
use Rattle.sheet_law.proofs.Growing.{Put, put_on, put_end, put_is, lies_is}
use Rattle.sheet.specs.Sizes.{SizesLow}
use Rattle.sheet.specs.declared.reader.Part.{Part}
use Rattle.sheet.specs.declared.reader.Record.{Record}
use Rattle.sheet.specs.Outcome.{TookFrom, Answers}
use Rattle.sheet.specs.Copying.{IsAccepted, Sayable, entry_in, CutShort, Copied}
use Rattle.sheet.proofs.Again.{Sound, valid_low, goes_sound, end_sound}
use Rattle.sheet.proofs.Entries.{same_shown}
use Rattle.sheet.proofs.Laying.{laid_twice}

-- A writer has put the records of a sheet into a buffer, which was `before`, as far as the bytes that are left; those are accepted after them.
pub record Copying (sheet before : List ℕ) (p : WriterState) (left buffer : List ℕ) : Type 0 where
  pub is_open : p.is_open ≡ true
  pub most : ℕ
  pub records : ℕ
  pub found : Summary
  pub onward : walked most left p.place records p.tally ≡ Ok found
  pub short : length sheet ≤ 65535
  pub begun : Begun
  pub keeps : Keeps begun
  pub tallied : p.tally ≡ begun_tally begun
  pub reached : p.place ≡ length (bytes_begun begun)
  pub same : sheet ≡ bytes_begun begun ++ left
  pub there : buffer ≡ laid 0 (bytes_begun begun) before
  pub fits : length (bytes_begun begun) ≤ length before
  pub end_fits : 1 ≤ length (bytes_begun begun) → length (bytes_begun begun) + 4 ≤ length before
  pub bytes : Bytes left

never : (f : SheetFault) (z : Summary) → ◌≡◌ {A = Verdict} (Err f) (Ok z) → ⊥
never f z e = let y : ◌≡◌ {A = ℕ} 0 1 = cc in omega arith

-- nothing left is not accepted
none_left : (most place n : ℕ) (g : Tally) (z : Summary) → walked most [] place n g ≡ Ok z → ⊥
unfolding walked
none_left zero place n g z e = never _ z e
none_left (suc most) place n g z e = never _ z e

-- the record that is next, and how the check goes on after it
record Next (xs : List ℕ) (place n : ℕ) (g : Tally) (z : Summary) : Type 0 where
  most : ℕ
  raw : Raw
  shows : Shown
  rest : List ℕ
  short : Short raw
  bytes : Bytes raw.body
  same : xs ≡ framed raw ++ rest
  reads : reading xs place ≡ taken shows rest
  is_shown : shown raw.kind raw.body place ≡ Some shows
  on : after_step (walked most) g place n rest (place + (4 + length raw.body)) (step g shows (place + (4 + length raw.body))) ≡ Ok z

next_record : (most place n : ℕ) (xs : List ℕ) (g : Tally) (z : Summary) → Bytes xs → walked most xs place n g ≡ Ok z → Next xs place n g z
unfolding walked
next_record zero place n xs g z b e = absurd (never _ z e)
next_record (suc most) place n xs g z b e = by (reading xs place) refl e
  where
    by : (r : Reading) → reading xs place ≡ r → after_reading (walked most) g place n (length xs) r ≡ Ok z → Next xs place n g z
    by (broken cause) f h = absurd (never _ z h)
    by (taken s rest) f h =
        let again : Framed xs place s rest = framed_again xs place s rest b (took xs place s rest f) in
        let raw : Raw = again.raw in
        let size = ap length again.same in
        let long = length-append (framed again.raw) rest in
        let far : place + (length xs - length rest) ≡ place + (4 + length again.raw.body) = omega arith in
        record {
          most = most;
          raw = raw;
          shows = s;
          rest = rest;
          short = again.short;
          bytes = again.bytes;
          same = again.same;
          reads = f;
          is_shown = again.shows;
          on = subst (λ p. after_step (walked most) g place n rest p (step g s p) ≡ Ok z) far h;
        }

-- what is left after it
rest_is : (xs : List ℕ) (place n : ℕ) (g : Tally) (z : Summary) (next : Next xs place n g z) → drop (4 + length next.raw.body) xs ≡ next.rest
rest_is xs place n g z next = ap (drop (4 + length next.raw.body)) next.same ∙ (framed_first next.raw next.rest next.short).3

-- after the last record nothing is left
ended_rest : (go : List ℕ → ℕ → ℕ → Tally → Verdict) (g : Tally) (place n after : ℕ) (rest : List ℕ) (z : Summary) → after_step go g place n rest after ends ≡ Ok z → rest ≡ []
ended_rest go g place n after rest z e = by (eqb (length rest) 0) refl e
  where
    by : (t : Bool) → eqb (length rest) 0 ≡ t → cond t (Ok (summary g)) (format_fault Trailing after (n + 1)) ≡ Ok z → rest ≡ []
    by true f h = nil_from_length rest (eqb-true (length rest) 0 f)
    by false f h = absurd (never _ z h)

-- more is left where the check goes on, and it has four bytes at least
more_rest : (most place n : ℕ) (rest : List ℕ) (g : Tally) (z : Summary) → Bytes rest → walked most rest place n g ≡ Ok z → 4 ≤ length rest
more_rest most place n rest g z b e =
    let next = next_record most place n rest g z b e in
    let size = ap length next.same in
    let long = length-append (framed next.raw) next.rest in
    omega arith

-- what does not lie in a buffer
not_lies : (size after : ℕ) → lies_in size after ≡ false → (size < after) ⊎ (65535 < after)
not_lies size after e = by (ltb size after) refl (ltb 65535 after) refl e
  where
    by : (t : Bool) → ltb size after ≡ t → (u : Bool) → ltb 65535 after ≡ u → (not t && not u) ≡ false → (size < after) ⊎ (65535 < after)
    by true f u g h = inl (ltb-true size after f)
    by false f true g h = inr (ltb-true 65535 after g)
    by false f false g h = absurd (let z : ◌≡◌ {A = ℕ} 0 1 = cc in omega arith)

short : (t : Bool) (r : WriterState) (f : WriteFault) → ◌≡◌ {A = Result WriterState WriteFault} (cond t (Ok r) (Err ShortBuffer)) (Err f) → (t ≡ false) × (f ≡ ShortBuffer)
short true r f e = absurd (let z : ◌≡◌ {A = ℕ} 0 1 = cc in omega arith)
short false r f e = (refl, cc)

shut : (t : Bool) (r : Result WriterState WriteFault) (f : WriteFault) → t ≡ true → cond t r (Err Closed) ≡ Err f → r ≡ Err f
shut true r f e h = h
shut false r f e h = absurd (let z : ◌≡◌ {A = ℕ} 0 1 = cc in omega arith)

module _ (sheet before : List ℕ) (p : WriterState) (left buffer : List ℕ) (c : Copying sheet before p left buffer) (n : Next left p.place c.records p.tally c.found) where
  same_bytes : sheet ≡ (bytes_begun c.begun ++ framed n.raw) ++ n.rest
  same_bytes = c.same ∙ ap (λ ys. bytes_begun c.begun ++ ys) n.same ∙ sym (append_assoc (bytes_begun c.begun) (framed n.raw) n.rest)

  all_long : length sheet ≡ p.place + (4 + length n.raw.body) + length n.rest
  all_long =
      let a = ap length same_bytes in
      let b = length-append (bytes_begun c.begun ++ framed n.raw) n.rest in
      let d = length-append (bytes_begun c.begun) (framed n.raw) in
      let reached = c.reached in
      omega arith

  same_size : length buffer ≡ length before
  same_size =
      let a = ap length c.there in
      let b = length-append (bytes_begun c.begun) (drop (0 + length (bytes_begun c.begun)) before) in
      let d = length-drop (0 + length (bytes_begun c.begun)) before in
      let fits = c.fits in
      omega arith

  laid_so : (ys : List ℕ) → ys ≡ laid p.place (framed n.raw) buffer → ys ≡ laid 0 (bytes_begun c.begun ++ framed n.raw) before
  laid_so ys e =
      let reached = c.reached in
      let fits = c.fits in
      e ∙ ap (laid p.place (framed n.raw)) c.there ∙ laid_twice 0 p.place (bytes_begun c.begun) (framed n.raw) before (omega arith) (omega arith)

  on_to : (h : Tally) → step p.tally n.shows (p.place + (4 + length n.raw.body)) ≡ goes h → walked n.most n.rest (p.place + (4 + length n.raw.body)) (c.records + 1) h ≡ Ok c.found
  on_to h e = sym (ap (after_step (walked n.most) p.tally p.place c.records n.rest (p.place + (4 + length n.raw.body))) e) ∙ n.on

  rest_bytes : Bytes n.rest
  rest_bytes = subst Bytes (rest_is left p.place c.records p.tally c.found n) (All-drop (λ x. x < 256) (4 + length n.raw.body) left c.bytes)

  goes_on : (h : Tally) (q : WriterState) (ys : List ℕ) → step p.tally n.shows (p.place + (4 + length n.raw.body)) ≡ goes h → q ≡ record { tally = h; place = p.place + (4 + length n.raw.body); is_open = true }
      → lies_in (length buffer) (p.place + (4 + length n.raw.body) + 4) ≡ true → ys ≡ laid p.place (framed n.raw) buffer → Copying sheet before q n.rest ys
  goes_on h q ys e made fits put =
      let b : Begun = c.begun in
      let raw : Raw = n.raw in
      let reached = c.reached in
      let far : past (length (bytes_begun c.begun)) n.raw ≡ p.place + (4 + length n.raw.body) = omega arith in
      let held : GoesHeld (begun_tally c.begun) n.shows (past (length (bytes_begun c.begun)) n.raw) h =
      goes_held (begun_tally c.begun) n.shows (past (length (bytes_begun c.begun)) n.raw) h
      (ap (step (begun_tally c.begun) n.shows) far ∙ ap (λ g. step g n.shows (p.place + (4 + length n.raw.body))) (sym c.tallied) ∙ e) in
      let x : Extends c.begun n.raw h = extends c.begun c.keeps n.raw n.bytes h n.shows (kind_is n.raw.kind n.raw.body p.place n.shows n.is_shown) held in
      let more : bytes_begun x.next ≡ bytes_begun c.begun ++ framed n.raw = ap (flat_map framed) x.more ∙ bytes_more (records_begun c.begun) n.raw in
      let long : length (bytes_begun x.next) ≡ past (length (bytes_begun c.begun)) n.raw = ap (λ rs. length (flat_map framed rs)) x.more ∙ place_more (records_begun c.begun) n.raw in
      let size = same_size in
      let l = lies_is (length buffer) (p.place + (4 + length n.raw.body) + 4) fits in
      record {
        is_open = ap (λ z. z.is_open) made;
        most = n.most;
        records = c.records + 1;
        found = c.found;
        onward = ap (λ z. walked n.most n.rest z.place (c.records + 1) z.tally) made ∙ on_to h e;
        short = c.short;
        begun = x.next;
        keeps = x.keeps;
        tallied = ap (λ z. z.tally) made ∙ x.tallied;
        reached = ap (λ z. z.place) made ∙ sym far ∙ sym long;
        same = same_bytes ∙ ap (λ ys. ys ++ n.rest) (sym more);
        there = laid_so ys put ∙ ap (λ zs. laid 0 zs before) (sym more);
        fits = omega (arith, l.0);
        end_fits = λ _. omega (arith, l.0);
        bytes = rest_bytes;
      }

  ended : (place : ℕ) (ys : List ℕ) → step p.tally n.shows (p.place + (4 + length n.raw.body)) ≡ ends → place ≡ p.place + (4 + length n.raw.body)
      → lies_in (length buffer) (p.place + (4 + length n.raw.body)) ≡ true → ys ≡ laid p.place (framed n.raw) buffer → (n.rest ≡ []) × Copied sheet before ys (Ok place)
  ended place ys e at fits put =
      let none : n.rest ≡ [] =
      ended_rest (walked n.most) p.tally p.place c.records (p.place + (4 + length n.raw.body)) n.rest c.found
      (sym (ap (after_step (walked n.most) p.tally p.place c.records n.rest (p.place + (4 + length n.raw.body))) e) ∙ n.on) in
      let whole : sheet ≡ bytes_begun c.begun ++ framed n.raw = same_bytes ∙ ap (λ ys. (bytes_begun c.begun ++ framed n.raw) ++ ys) none ∙ append-nil (bytes_begun c.begun ++ framed n.raw) in
      let nothing : length n.rest ≡ 0 = ap length none in
      let long = all_long in
      let size = same_size in
      let l = lies_is (length buffer) (p.place + (4 + length n.raw.body)) fits in
      (none, (omega arith, omega (arith, l.0), laid_so ys put ∙ ap (λ zs. laid 0 zs before) (sym whole)))

  refused : (f : WriteFault) (ys : List ℕ) → put p (length buffer) n.shows (4 + length n.raw.body) ≡ Err f → ys ≡ buffer → Copied sheet before ys (Err f)
  refused f ys e same = by (step p.tally n.shows (p.place + (4 + length n.raw.body))) refl (shut p.is_open _ f c.is_open e)
    where
      cut : length before < length sheet → length before < length (bytes_begun c.begun) + (length (framed n.raw) + min 4 (length n.rest)) → CutShort sheet before ys
      cut l m =
          record {
            short = l;
            begun = c.begun;
            keeps = c.keeps;
            next = n.raw;
            after = n.rest;
            same = c.same ∙ ap (λ zs. bytes_begun c.begun ++ zs) n.same;
            fits = c.end_fits;
            full = m;
            there = same ∙ c.there;
          }

      by : (st : Step) → step p.tally n.shows (p.place + (4 + length n.raw.body)) ≡ st → put_step p (length buffer) (p.place + (4 + length n.raw.body)) st ≡ Err f → Copied sheet before ys (Err f)
      by (goes h) s r =
          let t = short _ _ f r in
          let four = more_rest n.most (p.place + (4 + length n.raw.body)) (c.records + 1) n.rest h c.found rest_bytes (on_to h s) in
          let long = all_long in
          let size = same_size in
          let short = c.short in
          let reached = c.reached in
          let over : length buffer < p.place + (4 + length n.raw.body) + 4 =
          ⊎_elim (λ l. l) (λ l. absurd (omega arith)) (not_lies (length buffer) (p.place + (4 + length n.raw.body) + 4) t.0) in
          (t.1, cut (omega arith) (omega arith))
      by ends s r =
          let t = short _ _ f r in
          let long = all_long in
          let size = same_size in
          let short = c.short in
          let reached = c.reached in
          let over : length buffer < p.place + (4 + length n.raw.body) =
          ⊎_elim (λ l. l) (λ l. absurd (omega arith)) (not_lies (length buffer) (p.place + (4 + length n.raw.body)) t.0) in
          (t.1, cut (omega arith) (omega arith))
      by (stops cause) s r =
          absurd (never _ c.found (sym (ap (after_step (walked n.most) p.tally p.place c.records n.rest (p.place + (4 + length n.raw.body))) s) ∙ n.on))

next_of : (sheet before : List ℕ) (p : WriterState) (left buffer : List ℕ) (c : Copying sheet before p left buffer) → Next left p.place c.records p.tally c.found
next_of sheet before p left buffer c = next_record c.most p.place c.records left p.tally c.found c.bytes c.onward

same_taken : (s t : Shown) (xs ys : List ℕ) → taken s xs ≡ taken t ys → (s ≡ t) × (xs ≡ ys)
same_taken s t xs ys e = (cc, cc)

not_broken : (cause : RecordCause) (s : Shown) (xs : List ℕ) → taken s xs ≡ broken cause → ⊥
not_broken cause s xs e = let z : ◌≡◌ {A = ℕ} 0 1 = cc in omega arith

-- a record is there to be read
pub readable : (sheet before : List ℕ) (p : WriterState) (left buffer : List ℕ) → Copying sheet before p left buffer → (r : Result (Record × Part) (Fault RecordCause)) → Answers left p.place r → IsOk r
readable sheet before p left buffer c (Ok found) a = refl
readable sheet before p left buffer c (Err fault) a = let n = next_of sheet before p left buffer c in absurd (not_broken fault.cause n.shows n.rest (sym n.reads ∙ a.0))

pub read_off : (p : WriterState) (left : Part) (r : Result (Record × Part) (Fault RecordCause)) (found : Record × Part) → left.place ≡ p.place → Answers left.bytes.now left.place r → r ≡ Ok found
    → TookFrom left.bytes.now p.place found.0 found.1
read_off p left r found at a e = subst (λ n. TookFrom left.bytes.now n found.0 found.1) at (subst (Answers left.bytes.now left.place) e a)

pub place_low : (sheet before : List ℕ) (p : WriterState) (left buffer : List ℕ) → Copying sheet before p left buffer → p.place ≤ 65535
place_low sheet before p left buffer c =
    let all = ap length c.same ∙ length-append (bytes_begun c.begun) left in
    omega (arith, c.short, c.reached)

-- a record that was read off the bytes that are left
module _ (sheet before : List ℕ) (p : WriterState) (left buffer : List ℕ) (c : Copying sheet before p left buffer) (s : Shown) (rest : List ℕ) (reads : reading left p.place ≡ taken s rest) where
  n : Next left p.place c.records p.tally c.found
  n = next_of sheet before p left buffer c

  is_next : (s ≡ n.shows) × (rest ≡ n.rest)
  is_next = same_taken s n.shows rest n.rest (sym reads ∙ n.reads)

  sound : Sound n.raw n.shows
  sound = by (step p.tally n.shows (p.place + (4 + length n.raw.body))) refl
    where
      kind : KindIs n.raw.kind n.raw.body n.shows
      kind = kind_is n.raw.kind n.raw.body p.place n.shows n.is_shown

      by : (st : Step) → step p.tally n.shows (p.place + (4 + length n.raw.body)) ≡ st → Sound n.raw n.shows
      by (goes h) e =
          goes_sound p.tally n.raw n.shows (p.place + (4 + length n.raw.body)) h (subst (λ g. SizesLow g.variables) (sym c.tallied) (valid_low c.begun.n c.begun.variables c.keeps.variables_valid)) n.bytes kind
          (goes_held p.tally n.shows (p.place + (4 + length n.raw.body)) h e)
      by ends e = end_sound p.tally n.raw n.shows kind (end_held p.tally n.shows (p.place + (4 + length n.raw.body)) e)
      by (stops cause) e = absurd (never _ c.found (sym (ap (after_step (walked n.most) p.tally p.place c.records n.rest (p.place + (4 + length n.raw.body))) e) ∙ n.on))

  pub sayable : Sayable s
  sayable = subst Sayable (sym is_next.0) sound.sayable

  -- the entry that it says was put
  whole_length : (r : Raw) → length (framed r) ≡ 4 + length r.body
  whole_length r = omega arith

  put_so : (q : WriterState) (ys : List ℕ) (a : Result ℕ WriteFault) → PutsEntry p buffer (entry_in s) q ys a → Puts p buffer n.shows (framed n.raw) q ys a
  put_so q ys a puts = by (subst (λ r. PutsRecord p buffer r q ys a) (ap (λ t. entry_record (entry_in t)) is_next.0 ∙ sound.again) puts)
    where
      by : PutsRecord p buffer n.raw q ys a → Puts p buffer n.shows (framed n.raw) q ys a
      by (t, shows, so) = subst (λ u. Puts p buffer u (framed n.raw) q ys a) (same_shown t n.shows (sym shows ∙ n.is_shown)) so

  pub copied_err : (q : WriterState) (ys : List ℕ) (f : WriteFault) → PutsEntry p buffer (entry_in s) q ys (Err f) → Copied sheet before ys (Err f)
  copied_err q ys f puts =
      let so = put_so q ys (Err f) puts in
      refused sheet before p left buffer c n f ys (subst (λ m. put p (length buffer) n.shows m ≡ Err f) (whole_length n.raw) so.0) so.2

  -- what is left then is nothing, or the rest of the sheet is still to be put
  abbrev Onward : WriterState → List ℕ → ℕ → List ℕ → Type 0
  Onward q ys place rs =
      (length rs ≡ 0 → Copied sheet before ys (Ok place)) × (1 ≤ length rs → Copying sheet before q rs ys × (q.place ≡ p.place + (length left - length rs)))

  pub copied_ok : (q : WriterState) (ys : List ℕ) (place : ℕ) → PutsEntry p buffer (entry_in s) q ys (Ok place) → Onward q ys place rest
  copied_ok q ys place puts = subst (Onward q ys place) (sym is_next.1) (by (put_is p (length buffer) n.shows (4 + length n.raw.body) q fits))
    where
      so : Puts p buffer n.shows (framed n.raw) q ys (Ok place)
      so = put_so q ys (Ok place) puts

      fits : put p (length buffer) n.shows (4 + length n.raw.body) ≡ Ok q
      fits = subst (λ m. put p (length buffer) n.shows m ≡ Ok q) (whole_length n.raw) so.0

      by : Put p (length buffer) (p.place + (4 + length n.raw.body)) (step p.tally n.shows (p.place + (4 + length n.raw.body))) q
          → Onward q ys place n.rest
      by (put_on h st made lies) = (
        λ none. absurd (none_left n.most _ _ h c.found (subst (λ rs. walked n.most rs (p.place + (4 + length n.raw.body)) (c.records + 1) h ≡ Ok c.found) (nil_from_length n.rest none) (on_to sheet before p left buffer c n h st))),
        λ some. (
          goes_on sheet before p left buffer c n h q ys st made lies so.2,
          (let size = ap length n.same ∙ length-append (framed n.raw) n.rest in let at = ap (λ z. z.place) made in omega arith),
        ),
      )
      by (put_end st made lies) =
          let e = ended sheet before p left buffer c n place ys st (so.1 ∙ ap (λ z. z.place) made) lies so.2 in
          let none : length n.rest ≡ 0 = ap length e.0 in
          (λ _. e.1, λ some. absurd (omega arith))

-- nothing is put yet
pub start : (xs before : List ℕ) → IsAccepted xs → Bytes xs → Copying xs before new_writer xs before
start xs before a b = by (ltb 65535 (length xs)) refl a.is
  where
    by : (t : Bool) → ltb 65535 (length xs) ≡ t → cond t (format_fault TooLong 65535 0) (walked (suc (length xs)) xs 0 0 nothing_yet) ≡ Ok a.found → Copying xs before new_writer xs before
    by true e f = absurd (never _ a.found f)
    by false e f =
        record {
          is_open = refl;
          most = suc (length xs);
          records = 0;
          found = a.found;
          onward = f;
          short = ltb-false 65535 (length xs) e;
          begun = nothing_begun;
          keeps = nothing_keeps;
          tallied = refl;
          reached = refl;
          same = refl;
          there = refl;
          fits = omega arith;
          end_fits = λ l. absurd (omega arith);
          bytes = b;
        }
