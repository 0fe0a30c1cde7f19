-- What came through a `?` in the check, in plain words.
use Rattle.std.proofs.Common.{◌≡◌, ℕ, suc, ◌+◌, ◌-◌, ◌≤◌, List, length, Ok, Err, Result, sym, ap, ◌∙◌, subst, arith}
use Rattle.std.proofs.lemmas.List.{length-drop}
use Rattle.sheet_format.specs.declared.faults.Fault.{Fault}
use Rattle.sheet_format.specs.declared.faults.RecordCause.{RecordCause}
use Rattle.sheet_format.specs.Faults.{counted_result}
use Rattle.sheet_format.specs.Reading.{Shown, taken, reading}
use Rattle.sheet_format.specs.Verdict.{Tally, Verdict, goes, step, after_step, after_reading, walked}
use Rattle.sheet_law.proofs.Framing.{Took, took}
use Rattle.sheet_law.proofs.Held.{step_moves}
use Rattle.sheet.specs.declared.checking.Walk.{Walk}
use Rattle.sheet.specs.declared.reader.Part.{Part}
use Rattle.sheet.specs.declared.reader.Record.{Record}
use Rattle.sheet.specs.Outcome.{shown_by, TookFrom, Answers}
use Rattle.sheet.specs.Advance.{Onward, after_record}

pub left_shorter : (xs : List ℕ) (place : ℕ) (s : Shown) (rest : List ℕ) → reading xs place ≡ taken s rest → length rest + 4 ≤ length xs
left_shorter xs place s rest e =
    let t : Took xs place s rest = took xs place s rest e in
    let k : length rest ≡ length xs - t.long = ap length t.leaves ∙ length-drop t.long xs in
    omega (arith, t.at_least, t.at_most)

-- the reader took a record off the bytes of a walk
pub record TookOff (w : Walk) (t : Record) (rest : Part) : Type 0 where
  pub reads : reading w.input.now w.place ≡ taken (shown_by t) rest.bytes.now
  pub shorter : length rest.bytes.now + 4 ≤ length w.input.now
  pub next : rest.place ≡ w.place + (length w.input.now - length rest.bytes.now)

pub took_off : (w : Walk) (q : Result (Record × Part) (Fault RecordCause)) (t : Record) (rest : Part)
    → Answers w.input.now w.place q → Ok (t, rest) ≡ counted_result q w.records → TookOff w t rest
took_off w (Ok pair) t rest a e =
    let p : pair ≡ (t, rest) = cc in
    let b : TookFrom w.input.now w.place t rest = subst (λ x. TookFrom w.input.now w.place x.0 x.1) p a in
    record { reads = b.reads; shorter = left_shorter w.input.now w.place (shown_by t) rest.bytes.now b.reads; next = b.next }
took_off w (Err fault) t rest a e = absurd (let z : ◌≡◌ {A = ℕ} 0 1 = cc in omega arith)

-- and the check admitted it: what is left is shorter, one move more is there at most, and the verdict goes on
pub record Admitted (w : Walk) (rest : Part) (h : Tally) : Type 0 where
  pub shorter : length rest.bytes.now + 4 ≤ length w.input.now
  pub next : rest.place ≡ w.place + (length w.input.now - length rest.bytes.now)
  pub moves : h.moves ≤ w.progress.moves + 1
  pub goes_on : (go : Onward) → after_record go w ≡ go rest.bytes.now rest.place (w.records + 1) h

pub admitted : (w : Walk) (q : Result (Record × Part) (Fault RecordCause)) (t : Record) (rest : Part) (h : Tally)
    → Answers w.input.now w.place q → Ok (t, rest) ≡ counted_result q w.records → step w.progress (shown_by t) rest.place ≡ goes h → Admitted w rest h
admitted w q t rest h a e f =
    let o : TookOff w t rest = took_off w q t rest a e in
    record {
      shorter = o.shorter;
      next = o.next;
      moves = step_moves w.progress (shown_by t) rest.place h f;
      goes_on = λ go.
          ap (after_reading go w.progress w.place w.records (length w.input.now)) o.reads
          ∙ ap (λ p. after_step go w.progress w.place w.records rest.bytes.now p (step w.progress (shown_by t) p)) (sym o.next)
          ∙ ap (after_step go w.progress w.place w.records rest.bytes.now rest.place) f;
    }

-- what the records of a walk decide, after the next one of them
pub walk_more : (sheet xs : List ℕ) (place records : ℕ) (g : Tally) (v : Verdict) → records ≤ length sheet → walked (suc (length sheet) - records) xs place records g ≡ v
    → after_reading (walked (suc (length sheet) - (records + 1))) g place records (length xs) (reading xs place) ≡ v
unfolding walked
walk_more sheet xs place records g v l e =
    let n : suc (length sheet) - records ≡ suc (suc (length sheet) - (records + 1)) = omega arith in
    sym (ap (λ k. walked k xs place records g) n) ∙ e
