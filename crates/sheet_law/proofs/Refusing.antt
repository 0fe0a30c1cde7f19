-- Why a writer refuses an entry where it has written a beginning of a sheet.
use Rattle.std.proofs.Common.{◌≡◌, ℕ, ◌+◌, Bool, true, false, cond, not, ◌&&◌, ltb, List, [], length, Some, Ok, Err, Result, sym, refl, ap, ◌∙◌, subst, inl, inr, arith}
use Rattle.std.proofs.lemmas.Bool.{ltb-true}
use Rattle.sheet_format.specs.declared.writing.WriteFault.{WriteFault}
use Rattle.sheet_format.specs.declared.writing.WriteFault.TheVariants.{Format, ShortBuffer, Closed}
use Rattle.sheet_format.specs.declared.faults.Cause.{Cause}
use Rattle.sheet_format.specs.Kinds.{kind_number}
use Rattle.sheet_format.specs.Value.{sum, table, add, retract}
use Rattle.sheet_format.specs.Encoding.{framed, end_record}
use Rattle.sheet_format.specs.Beginnings.{Begun, begun_tally}
use Rattle.sheet_format.specs.Reading.{Shown, shows_end, shown}
use Rattle.sheet_format.specs.Verdict.{Tally, Step, goes, ends, stops, step}
use Rattle.sheet_format.specs.Writing.{Entry, heads, has_variable, has_constraint, has_move, ends_here, entry_record, WriterState, lies_in, put_step, put}
use Rattle.sheet_format.specs.Written.{Written, entry_kind, entry_rules, kept_after, Passes, WhyRefused}
use Rattle.sheet_law.proofs.Held.{goes_held, end_held}
use Rattle.sheet_law.proofs.Shows.{kind_is}
use Rattle.sheet_law.proofs.Telling.{the_end}
use Rattle.sheet_law.proofs.Breaking.{Breaks, OfKind, of_kind, same_shown, goes_on, ends_on}

-- what the end shows
pub end_shows : (place : ℕ) (s : Shown) → shown end_record.kind end_record.body place ≡ Some s → s ≡ shows_end []
end_shows place s e = cc

-- only the end ends
pub last_kind : (e : Entry) (g : Tally) (place after : ℕ) (s : Shown) → shown (entry_record e).kind (entry_record e).body place ≡ Some s → step g s after ≡ ends → (entry_record e).kind ≡ 7
last_kind e g place after s shows st = ap (λ r. r.kind) (the_end g (entry_record e) s (kind_is _ _ place s shows) (end_held g s after st)).1

-- and it does not go on
pub end_stays : (g : Tally) (place after : ℕ) (s : Shown) (h : Tally) → shown end_record.kind end_record.body place ≡ Some s → step g s after ≡ goes h → ⊥
end_stays g place after s h shows st = goes_held g (shows_end []) after h (subst (λ t. step g t after ≡ goes h) (end_shows place s shows) st)

-- what does not lie in a buffer
lies_not : (size after : ℕ) → lies_in size after ≡ false → Passes size after
lies_not size after e = by (ltb size after) (ltb 65535 after) refl refl e
  where
    by : (s t : Bool) → ltb size after ≡ s → ltb 65535 after ≡ t → (not s && not t) ≡ false → Passes size after
    by true t p q e = inl (ltb-true size after p)
    by false true p q e = inr (ltb-true 65535 after q)
    by false false p q e = absurd (let z : ◌≡◌ {A = ℕ} 0 1 = cc in omega arith)

-- why a step is refused
data Stopped (p : WriterState) (size after : ℕ) (st : Step) (fault : WriteFault) : Type 0 where
  by_cause : (cause : Cause) → st ≡ stops cause → fault ≡ Format cause → Stopped p size after st fault
  no_room_on : (h : Tally) → st ≡ goes h → lies_in size (after + 4) ≡ false → fault ≡ ShortBuffer → Stopped p size after st fault
  no_room : st ≡ ends → lies_in size after ≡ false → fault ≡ ShortBuffer → Stopped p size after st fault

too_far : (t : Bool) (r : WriterState) (fault : WriteFault) → ◌≡◌ {A = Result WriterState WriteFault} (cond t (Ok r) (Err ShortBuffer)) (Err fault) → (t ≡ false) × (fault ≡ ShortBuffer)
too_far false r fault e = (refl, cc)
too_far true r fault e = absurd (let z : ◌≡◌ {A = ℕ} 0 1 = cc in omega arith)

same_fault : (f g : WriteFault) → ◌≡◌ {A = Result WriterState WriteFault} (Err f) (Err g) → g ≡ f
same_fault f g e = cc

stopped : (p : WriterState) (size after : ℕ) (st : Step) (fault : WriteFault) → put_step p size after st ≡ Err fault → Stopped p size after st fault
stopped p size after (goes h) fault e = let t = too_far _ _ fault e in no_room_on h refl t.0 t.1
stopped p size after ends fault e = let t = too_far _ _ fault e in no_room refl t.0 t.1
stopped p size after (stops cause) fault e = by_cause cause refl (same_fault _ fault e)

kind_of : (e : Entry) → kind_number (entry_kind e) ≡ (entry_record e).kind
kind_of (heads n) = refl
kind_of (has_variable v) = refl
kind_of (has_constraint (sum a b m k lo hi)) = refl
kind_of (has_constraint (table a b rows)) = refl
kind_of (has_move (add i)) = refl
kind_of (has_move (retract i)) = refl
kind_of ends_here = refl

-- what is kept after an entry whose record goes on, and after one whose record ends
on_kept : (e : Entry) (g : Tally) (place after : ℕ) (s : Shown) (h : Tally) → shown (entry_record e).kind (entry_record e).body place ≡ Some s → step g s after ≡ goes h → kept_after e ≡ 4
on_kept (heads n) g place after s h shows st = refl
on_kept (has_variable v) g place after s h shows st = refl
on_kept (has_constraint c) g place after s h shows st = refl
on_kept (has_move m) g place after s h shows st = refl
on_kept ends_here g place after s h shows st = absurd (end_stays g place after s h shows st)

last_kept : (e : Entry) → (entry_record e).kind ≡ 7 → kept_after e ≡ 0
last_kept (heads n) k = absurd (omega arith)
last_kept (has_variable v) k = absurd (omega arith)
last_kept (has_constraint (sum a b m n lo hi)) k = absurd (omega arith)
last_kept (has_constraint (table a b rows)) k = absurd (omega arith)
last_kept (has_move (add i)) k = absurd (omega arith)
last_kept (has_move (retract i)) k = absurd (omega arith)
last_kept ends_here k = refl

module _ (b : Begun) (p : WriterState) (xs : List ℕ) (w : Written b p xs) (size : ℕ) (e : Entry) (s : Shown) (shows : shown (entry_record e).kind (entry_record e).body p.place ≡ Some s) where
  -- the step of the record, by the rules for it
  judged : Breaks (step p.tally s (p.place + length (framed (entry_record e)))) (entry_rules b e)
  judged =
      let at : ℕ = p.place + length (framed (entry_record e)) in
      let o : OfKind b w.keeps (entry_kind e) (entry_record e).body p.place at = of_kind b w.keeps (entry_kind e) (entry_record e).body p.place at in
      let same : o.shows ≡ s = same_shown s o.shows (sym shows ∙ ap (λ n. shown n (entry_record e).body p.place) (sym (kind_of e)) ∙ o.shown_so) in
      subst (λ g. Breaks (step g s at) (entry_rules b e)) (sym w.tallied) (subst (λ t. Breaks (step (begun_tally b) t at) (entry_rules b e)) same o.breaks)

  why : (fault : WriteFault) → p.is_open ≡ true → Stopped p size (p.place + length (framed (entry_record e))) (step p.tally s (p.place + length (framed (entry_record e)))) fault → WhyRefused b e p size fault
  why fault is_open (by_cause cause st f) = subst (WhyRefused b e p size) (sym f) (is_open, judged.first cause st)
  why fault is_open (no_room_on h st far f) =
      subst (WhyRefused b e p size) (sym f)
      (is_open, judged.all (λ cause c. goes_on h cause (sym st ∙ c)), lies_not size _ (subst (λ k. lies_in size (p.place + length (framed (entry_record e)) + k) ≡ false) (sym (on_kept e p.tally p.place _ s h shows st)) far))
  why fault is_open (no_room st far f) =
      let none : kept_after e ≡ 0 = last_kept e (last_kind e p.tally p.place _ s shows st) in
      subst (WhyRefused b e p size) (sym f)
      (is_open, judged.all (λ cause c. ends_on cause (sym st ∙ c)), lies_not size _ (subst (λ n. lies_in size n ≡ false) (omega arith) far))

  by_open : (t : Bool) → p.is_open ≡ t → (fault : WriteFault)
      → cond t (put_step p size (p.place + length (framed (entry_record e))) (step p.tally s (p.place + length (framed (entry_record e))))) (Err Closed) ≡ Err fault → WhyRefused b e p size fault
  by_open true is_open fault r = why fault is_open (stopped p size _ _ fault r)
  by_open false shut fault r = subst (WhyRefused b e p size) (sym (same_fault Closed fault r)) shut

  pub why_refused : (fault : WriteFault) → put p size s (length (framed (entry_record e))) ≡ Err fault → WhyRefused b e p size fault
  why_refused fault r = by_open p.is_open refl fault r
