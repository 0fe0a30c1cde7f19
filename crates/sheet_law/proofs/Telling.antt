-- What a walk over bytes tells of them: a whole sheet, or where and why they are none.
use Rattle.std.proofs.Common.{◌≡◌, ℕ, zero, suc, ◌+◌, ◌-◌, ◌<◌, Bool, true, false, cond, eqb, ◌⊎◌, List, [], ◌∷◌, ◌++◌, length, Ok, Err, ◌≢◌, sym, refl, ap, ◌∙◌, subst, inl, inr, arith}
use Rattle.std.specs.List.{flat_map}
use Rattle.std.proofs.lemmas.List.{nil_from_length, append_assoc, length-append}
use Rattle.std.proofs.ByRecursion.{All-drop}
use Rattle.std.proofs.lemmas.Bool.{eqb-true, eqb-false}
use Rattle.sheet_format.specs.declared.found.Summary.{Summary}
use Rattle.sheet_format.specs.declared.faults.Cause.TheVariants.{Trailing}
use Rattle.sheet_format.specs.Faults.{cause_number, fault_number, fault_byte, fault_records}
use Rattle.sheet_format.specs.Encoding.{Raw, framed, end_record}
use Rattle.sheet_format.specs.Beginnings.{Begun, AllThere, Keeps, records_begun, bytes_begun, begun_tally}
use Rattle.sheet_format.specs.Rules.{Wrong, breaks_rule}
use Rattle.sheet_format.specs.Reading.{Shown, shows_heading, shows_variable, shows_sum, shows_table, shows_short_table, shows_add, shows_retract, shows_end, Reading, taken, broken, reading}
use Rattle.sheet_format.specs.Verdict.{Tally, Step, goes, ends, stops, step, complete, summary, Verdict, format_fault, after_step, after_reading, walked}
use Rattle.sheet_law.proofs.NumberLaws.{Bytes}
use Rattle.sheet_law.proofs.Framing.{Took, took, Framed, framed_again, framed-length}
use Rattle.sheet_law.proofs.Held.{goes_held, EndHeld, end_held}
use Rattle.sheet_law.proofs.Shows.{KindIs, kind_is}
use Rattle.sheet_law.proofs.Items.{same_raw}
use Rattle.sheet_law.proofs.Tallies.{past, bytes_more, place_more, complete_is}
use Rattle.sheet_law.proofs.Breaking.{breaks}
use Rattle.sheet_law.proofs.Unread.{unread}
use Rattle.sheet_law.proofs.Extending.{Extends, extends}

-- a beginning with all its variables, and the end record
pub record Ended (bytes more : List ℕ) : Type 0 where
  pub begun : Begun
  pub keeps : Keeps begun
  pub all : AllThere begun
  pub same : bytes ≡ bytes_begun begun ++ (framed end_record ++ more)

-- it is all
pub record Whole (bytes : List ℕ) (z : Summary) : Type 0 where
  pub ended : Ended bytes []
  pub sums_up : z ≡ summary (begun_tally ended.begun)

-- more follows it
pub record Over (bytes : List ℕ) (number byte records : ℕ) : Type 0 where
  pub more : List ℕ
  pub some : more ≢ []
  pub ended : Ended bytes more
  pub number_is : number ≡ cause_number Trailing
  pub byte_is : byte ≡ length (bytes_begun ended.begun) + 4
  pub records_are : records ≡ length (records_begun ended.begun) + 1

-- a beginning, and something wrong after it
pub record Off (bytes : List ℕ) (number byte records : ℕ) : Type 0 where
  pub begun : Begun
  pub keeps : Keeps begun
  pub rest : List ℕ
  pub same : bytes ≡ bytes_begun begun ++ rest
  pub byte_is : byte ≡ length (bytes_begun begun)
  pub records_are : records ≡ length (records_begun begun)
  pub wrong : Wrong number begun rest

abbrev pub LawOf : List ℕ → Verdict → Type 0
LawOf bytes (Ok z) = Whole bytes z
LawOf bytes (Err f) =
    Over bytes (fault_number f) (fault_byte f) (fault_records f) ⊎ Off bytes (fault_number f) (fault_byte f) (fault_records f)

-- only the end record ends
pub the_end : (g : Tally) (r : Raw) (s : Shown) → KindIs r.kind r.body s → EndHeld g s → (complete g ≡ true) × (r ≡ end_record)
the_end g r (shows_heading body) kind e = absurd e
the_end g r (shows_variable body) kind e = absurd e
the_end g r (shows_sum body) kind e = absurd e
the_end g r (shows_table x y rows at) kind e = absurd e
the_end g r (shows_short_table body) kind e = absurd e
the_end g r (shows_add body) kind e = absurd e
the_end g r (shows_retract body) kind e = absurd e
the_end g r (shows_end body) kind e = (e.0, same_raw r 7 [] kind.0 (kind.1 ∙ nil_from_length body (eqb-true (length body) 0 e.1)))

-- a walk from after a beginning, with enough turns
abbrev Walks : ℕ → List ℕ → Type 0
Walks most bytes =
    (xs : List ℕ) (b : Begun) → Keeps b → Bytes xs → length xs < most → bytes ≡ bytes_begun b ++ xs
    → LawOf bytes (walked most xs (length (bytes_begun b)) (length (records_begun b)) (begun_tally b))

module _ (bytes xs : List ℕ) (b : Begun) (k : Keeps b) (same : bytes ≡ bytes_begun b ++ xs) where
  abbrev here : ℕ
  here = length (bytes_begun b)

  abbrev count : ℕ
  count = length (records_begun b)

  -- a record that stops it
  stopped : (cause : _) (s : Shown) (rest : List ℕ) (f : Framed xs here s rest) → step (begun_tally b) s (past here f.raw) ≡ stops cause
      → LawOf bytes (format_fault cause here count)
  stopped cause s rest f e =
      let q = breaks b k f.raw.kind f.raw.body here (past here f.raw) s cause f.shows e in
      inr
      (record {
        begun = b;
        keeps = k;
        rest = xs;
        same = same;
        byte_is = refl;
        records_are = refl;
        wrong = breaks_rule f.raw (record { after = rest; same = f.same; kind_low = f.short.kind_low; length_low = f.short.length_low }) q.0 q.1 q.2;
      })

  -- the end record
  at_end : (s : Shown) (rest : List ℕ) (f : Framed xs here s rest) → step (begun_tally b) s (past here f.raw) ≡ ends → (t : Bool) → eqb (length rest) 0 ≡ t
      → LawOf bytes (cond t (Ok (summary (begun_tally b))) (format_fault Trailing (past here f.raw) (count + 1)))
  at_end s rest f e t none = by t none
    where
      last : (complete (begun_tally b) ≡ true) × (f.raw ≡ end_record)
      last = the_end (begun_tally b) f.raw s (kind_is f.raw.kind f.raw.body here s f.shows) (end_held (begun_tally b) s (past here f.raw) e)

      ended : Ended bytes rest
      ended =
          record {
            begun = b;
            keeps = k;
            all = complete_is b k last.0;
            same = same ∙ ap (λ ys. bytes_begun b ++ ys) (f.same ∙ ap (λ r. framed r ++ rest) last.1);
          }

      by : (u : Bool) → eqb (length rest) 0 ≡ u → LawOf bytes (cond u (Ok (summary (begun_tally b))) (format_fault Trailing (past here f.raw) (count + 1)))
      by true h = let empty : rest ≡ [] = nil_from_length rest (eqb-true (length rest) 0 h) in
          record {
            ended = record { begun = b; keeps = k; all = ended.all; same = ended.same ∙ ap (λ ys. bytes_begun b ++ (framed end_record ++ ys)) empty };
            sums_up = refl;
          }
      by false h =
          inl
          (record {
            more = rest;
            some = λ empty. eqb-false (length rest) 0 h (ap length empty);
            ended = ended;
            number_is = refl;
            byte_is = (let l = ap (λ r. length r.body) last.1 in omega arith);
            records_are = refl;
          })

  -- a record with which it goes on
  further : (most : ℕ) (s : Shown) (rest : List ℕ) (f : Framed xs here s rest) (h : Tally) → step (begun_tally b) s (past here f.raw) ≡ goes h → Bytes rest → length xs < suc most → Walks most bytes
      → LawOf bytes (walked most rest (past here f.raw) (count + 1) h)
  further most s rest f h e low turns go =
      let r : Raw = f.raw in
      let x : Extends b r h = extends b k r f.bytes h s (kind_is r.kind r.body here s f.shows) (goes_held (begun_tally b) s (past here r) h e) in
      let long : length xs ≡ 4 + (length f.raw.body + length rest) = ap length f.same ∙ framed-length f.raw rest in
      let next_bytes : bytes_begun x.next ≡ bytes_begun b ++ framed r = ap (flat_map framed) x.more ∙ bytes_more (records_begun b) r in
      let next_same : bytes ≡ bytes_begun x.next ++ rest =
      same ∙ ap (λ ys. bytes_begun b ++ ys) f.same ∙ sym (append_assoc (bytes_begun b) (framed r) rest) ∙ ap (λ ys. ys ++ rest) (sym next_bytes) in
      let place : length (bytes_begun x.next) ≡ past here r = ap (λ rs. length (flat_map framed rs)) x.more ∙ place_more (records_begun b) r in
      let many : length (records_begun x.next) ≡ count + 1 = ap length x.more ∙ length-append (records_begun b) (r ∷ []) in
      subst (λ t. LawOf bytes (walked most rest (past here r) (count + 1) t)) (sym x.tallied)
      (subst (λ n. LawOf bytes (walked most rest (past here r) n (begun_tally x.next))) many
      (subst (λ p. LawOf bytes (walked most rest p (length (records_begun x.next)) (begun_tally x.next))) place (go rest x.next x.keeps low (omega arith) next_same)))

  pub law_step : (most : ℕ) → Bytes xs → length xs < suc most → Walks most bytes
      → (w : Reading) → reading xs here ≡ w → LawOf bytes (after_reading (walked most) (begun_tally b) here count (length xs) w)
  law_step most low turns go (broken cause) e =
      inr
      (record { begun = b; keeps = k; rest = xs; same = same; byte_is = refl; records_are = refl; wrong = unread xs here b low cause e })
  law_step most low turns go (taken s rest) e =
      subst (λ p. LawOf bytes (after_step (walked most) (begun_tally b) here count rest p (step (begun_tally b) s p))) (sym place) (by (step (begun_tally b) s (past here f.raw)) refl)
    where
      t : Took xs here s rest
      t = took xs here s rest e

      f : Framed xs here s rest
      f = framed_again xs here s rest low t

      low' : Bytes rest
      low' = subst Bytes (sym t.leaves) (All-drop (λ x. x < 256) t.long xs low)

      place : here + (length xs - length rest) ≡ past here f.raw
      place = let l : length xs ≡ 4 + (length f.raw.body + length rest) = ap length f.same ∙ framed-length f.raw rest in omega arith

      by : (w : Step) → step (begun_tally b) s (past here f.raw) ≡ w → LawOf bytes (after_step (walked most) (begun_tally b) here count rest (past here f.raw) w)
      by (goes h) q = further most s rest f h q low' turns go
      by ends q = at_end s rest f q (eqb (length rest) 0) refl
      by (stops cause) q = stopped cause s rest f q

-- what a walk from after a beginning tells
pub law_of : (most : ℕ) (bytes : List ℕ) → Walks most bytes
unfolding walked
law_of zero bytes xs b k low turns same = absurd (omega arith)
law_of (suc most) bytes xs b k low turns same =
    law_step bytes xs b k same most low turns (law_of most bytes) (reading xs (length (bytes_begun b))) refl
