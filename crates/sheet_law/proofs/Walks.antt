-- The walk over bytes as a walk over whole records.
use Rattle.std.proofs.Common.{◌≡◌, ℕ, zero, suc, ◌+◌, ◌-◌, ◌≤◌, Bool, true, false, cond, eqb, List, [], ◌∷◌, ◌++◌, length, Some, Ok, Err, sym, ap, ◌∙◌, subst, arith}
use Rattle.std.specs.List.{flat_map, AllByRecursion}
use Rattle.std.proofs.lemmas.List.{append_assoc}
use Rattle.sheet_format.specs.declared.found.Summary.{Summary}
use Rattle.sheet_format.specs.declared.faults.SheetFault.{SheetFault}
use Rattle.sheet_format.specs.declared.faults.Cause.TheVariants.{Trailing}
use Rattle.sheet_format.specs.Faults.{fault_records}
use Rattle.sheet_format.specs.Encoding.{Raw, framed}
use Rattle.sheet_format.specs.Reading.{Shown, shown, Reading, taken, broken, taken_if, reading}
use Rattle.sheet_format.specs.Verdict.{Tally, Step, goes, ends, stops, step, summary, Verdict, format_fault, after_step, after_reading, walked}
use Rattle.sheet_law.proofs.Framing.{Short, framed-length, framed_read}
use Rattle.sheet_law.proofs.Tallies.{past}

-- records that take a tally, at a place, to another
abbrev pub Reaches : Tally → ℕ → List Raw → Tally → Type 0
Reaches g place [] h = g ≡ h
Reaches g place (r ∷ rs) h =
    (s : Shown) × (shown r.kind r.body place ≡ Some s) × ((k : Tally) × (step g s (past place r) ≡ goes k) × Reaches k (past place r) rs h)

-- the place after one record more
pub past_all : (place : ℕ) (r : Raw) (rs : List Raw) → past place r + length (flat_map framed rs) ≡ place + length (flat_map framed (r ∷ rs))
past_all place r rs = let l = framed-length r (flat_map framed rs) in omega arith

-- records after records
pub reaches_more : (xs ys : List Raw) (g k h : Tally) (place : ℕ) → Reaches g place xs k → Reaches k (place + length (flat_map framed xs)) ys h → Reaches g place (xs ++ ys) h
reaches_more [] ys g k h place first rest =
    let same : place + 0 ≡ place = omega arith in
    subst (λ t. Reaches t place ys h) (sym first) (subst (λ p. Reaches k p ys h) same rest)
reaches_more (r ∷ xs) ys g k h place first rest =
    (first.0, first.1, (first.2.0, first.2.1, reaches_more xs ys first.2.0 k h (past place r) first.2.2 (subst (λ p. Reaches k p ys h) (sym (past_all place r xs)) rest)))

-- one record of a walk
pub first_step : (r : Raw) (rest : List ℕ) (g : Tally) (place n most : ℕ) (s : Shown) → Short r → shown r.kind r.body place ≡ Some s
    → walked (suc most) (framed r ++ rest) place n g ≡ after_step (walked most) g place n rest (past place r) (step g s (past place r))
unfolding walked
first_step r rest g place n most s short e =
    let l = framed-length r rest in
    let p : place + (length (framed r ++ rest) - length rest) ≡ past place r = omega arith in
    ap (after_reading (walked most) g place n (length (framed r ++ rest))) (framed_read r rest place short ∙ ap (λ o. taken_if o rest) e)
    ∙ ap (λ q. after_step (walked most) g place n rest q (step g s q)) p

-- the walk goes on after records that reach a tally
pub walked_on : (rs : List Raw) (rest : List ℕ) (g h : Tally) (place n extra : ℕ) → Reaches g place rs h → AllByRecursion Short rs
    → walked (length rs + extra) (flat_map framed rs ++ rest) place n g ≡ walked extra rest (place + length (flat_map framed rs)) (n + length rs) h
walked_on [] rest g h place n extra e short =
    let p : place ≡ place + 0 = omega arith in
    let m : n ≡ n + 0 = omega arith in
    let f : 0 + extra ≡ extra = omega arith in
    ap (λ k. walked k rest place n g) f ∙ ap (walked extra rest place n) e ∙ ap (λ q. walked extra rest q n h) p ∙ ap (λ k. walked extra rest (place + 0) k h) m
walked_on (r ∷ rs) rest g h place n extra e short =
    let fuel : length (r ∷ rs) + extra ≡ suc (length rs + extra) = omega arith in
    let count : n + 1 + length rs ≡ n + length (r ∷ rs) = omega arith in
    let left : List ℕ = flat_map framed rs ++ rest in
    ap (λ m. walked m (flat_map framed (r ∷ rs) ++ rest) place n g) fuel
    ∙ ap (λ ys. walked (suc (length rs + extra)) ys place n g) (append_assoc (framed r) (flat_map framed rs) rest)
    ∙ first_step r left g place n (length rs + extra) e.0 short.0 e.1
    ∙ ap (after_step (walked (length rs + extra)) g place n left (past place r)) e.2.1
    ∙ walked_on rs rest e.2.0 h (past place r) (n + 1) extra e.2.2 short.1
    ∙ ap (λ p. walked extra rest p (n + 1 + length rs) h) (past_all place r rs)
    ∙ ap (λ m. walked extra rest (place + length (flat_map framed (r ∷ rs))) m h) count

-- a fault of a walk counts the records before it, and perhaps more
pub same_fault : (e f : SheetFault) → ◌≡◌ {A = Verdict} (Err e) (Err f) → e ≡ f
same_fault e f h = cc

pub no_fault : (z : Summary) (f : SheetFault) → ◌≡◌ {A = Verdict} (Ok z) (Err f) → ⊥
no_fault z f e = let w : ◌≡◌ {A = ℕ} 0 1 = cc in omega arith

pub later : (most : ℕ) (xs : List ℕ) (place n : ℕ) (g : Tally) (f : SheetFault) → walked most xs place n g ≡ Err f → n ≤ fault_records f
unfolding walked
later zero xs place n g f v = let k = ap fault_records (same_fault _ f v) in omega arith
later (suc most) xs place n g f v = at_reading (later most) (reading xs place) v
  where
    at_end : (rest : List ℕ) (after : ℕ) (b : Bool) → cond b (Ok (summary g)) (format_fault Trailing after (n + 1)) ≡ Err f → n ≤ fault_records f
    at_end rest after true w = absurd (no_fault _ f w)
    at_end rest after false w = let k = ap fault_records (same_fault _ f w) in omega arith

    at_step : ((ys : List ℕ) (p m : ℕ) (h : Tally) (e : SheetFault) → walked most ys p m h ≡ Err e → m ≤ fault_records e) → (rest : List ℕ) (after : ℕ) (t : Step) → after_step (walked most) g place n rest after t ≡ Err f → n ≤ fault_records f
    at_step go rest after (goes h) w = let k = go rest after (n + 1) h f w in omega arith
    at_step go rest after ends w = at_end rest after (eqb (length rest) 0) w
    at_step go rest after (stops cause) w = let k = ap fault_records (same_fault _ f w) in omega arith

    at_reading : ((ys : List ℕ) (p m : ℕ) (h : Tally) (e : SheetFault) → walked most ys p m h ≡ Err e → m ≤ fault_records e) → (t : Reading) → after_reading (walked most) g place n (length xs) t ≡ Err f → n ≤ fault_records f
    at_reading go (broken cause) w = let k = ap fault_records (same_fault _ f w) in omega arith
    at_reading go (taken s rest) w = at_step go rest (place + (length xs - length rest)) (step g s (place + (length xs - length rest))) w
