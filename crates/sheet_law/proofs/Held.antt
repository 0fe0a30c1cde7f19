-- What a step that goes on has passed.
use Rattle.std.proofs.Common.{◌≡◌, ℕ, ◌+◌, ◌*◌, ◌≤◌, Bool, true, false, ◌&&◌, eqb, ltb, List, length, get_or, sym, refl, ap, arith}
use Rattle.sheet_format.specs.declared.faults.Cause.{Cause}
use Rattle.sheet_format.specs.declared.faults.Cause.TheVariants.{OutOfTurn, TooManyConstraints, WrongLength, BadHeading, BadSize, BadHouse, BadEnds, BadSum, BadRow}
use Rattle.sheet_format.specs.Numbers.{number2}
use Rattle.sheet_format.specs.Value.{size_at}
use Rattle.sheet_format.specs.Reading.{Shown, shows_heading, shows_variable, shows_sum, shows_table, shows_short_table, shows_add, shows_retract, shows_end}
use Rattle.sheet_format.specs.Verdict.{Tally, Step, goes, ends, stops, unless, complete, constraints_due, between, house_good, ends_good, sum_body_good, rows_good, variable_of, with_heading, with_variable, with_constraint, with_move, heading_step, variable_step, sum_step, table_step, move_step, end_step, constraint_step, step}

stopped : (cause : Cause) (g : Tally) → stops cause ≡ goes g → ⊥
stopped cause g e = let z : ◌≡◌ {A = ℕ} 0 1 = cc in omega arith

stopped_end : (cause : Cause) → stops cause ≡ ends → ⊥
stopped_end cause e = let z : ◌≡◌ {A = ℕ} 0 1 = cc in omega arith

goes_not_ends : (g : Tally) → goes g ≡ ends → ⊥
goes_not_ends g e = let z : ◌≡◌ {A = ℕ} 0 1 = cc in omega arith

pub same_tally : (g h : Tally) → goes g ≡ goes h → h ≡ g
same_tally g h e = cc

-- a test that a step passed
pub held : (b : Bool) (cause : Cause) (next : Step) (g : Tally) → unless b cause next ≡ goes g → (b ≡ true) × (next ≡ goes g)
held true cause next g e = (refl, e)
held false cause next g e = absurd (stopped cause g e)

pub held_end : (b : Bool) (cause : Cause) (next : Step) → unless b cause next ≡ ends → (b ≡ true) × (next ≡ ends)
held_end true cause next e = (refl, e)
held_end false cause next e = absurd (stopped_end cause e)

-- the tests of each kind of record, all passed
pub record HeadingHeld (g : Tally) (body : List ℕ) (after : ℕ) (h : Tally) : Type 0 where
  pub due : eqb g.n 0 ≡ true
  pub long : eqb (length body) 4 ≡ true
  pub good : (eqb (number2 body 0) 1 && between 1 32 (number2 body 2)) ≡ true
  pub result : h ≡ with_heading g (number2 body 2) after

pub heading_held : (g : Tally) (body : List ℕ) (after : ℕ) (h : Tally) → heading_step g body after ≡ goes h → HeadingHeld g body after h
heading_held g body after h e =
    let a = held _ _ _ h e in
    let b = held _ _ _ h a.1 in
    let d = held _ _ _ h b.1 in
    record { due = a.0; long = b.0; good = d.0; result = same_tally _ h d.1 }

pub record VariableHeld (g : Tally) (body : List ℕ) (after : ℕ) (h : Tally) : Type 0 where
  pub due : ltb (length g.variables) g.n ≡ true
  pub long : eqb (length body) 4 ≡ true
  pub size_good : between 1 64 (number2 body 0) ≡ true
  pub house_fits : house_good g (number2 body 2) ≡ true
  pub result : h ≡ with_variable g (variable_of body) after

pub variable_held : (g : Tally) (body : List ℕ) (after : ℕ) (h : Tally) → variable_step g body after ≡ goes h → VariableHeld g body after h
variable_held g body after h e =
    let a = held _ _ _ h e in
    let b = held _ _ _ h a.1 in
    let d = held _ _ _ h b.1 in
    let f = held _ _ _ h d.1 in
    record { due = a.0; long = b.0; size_good = d.0; house_fits = f.0; result = same_tally _ h f.1 }

pub record ConstraintHeld (g : Tally) (next : Step) (h : Tally) : Type 0 where
  pub due : constraints_due g ≡ true
  pub few : ltb g.constraints 96 ≡ true
  pub further : next ≡ goes h

pub constraint_held : (g : Tally) (next : Step) (h : Tally) → constraint_step g next ≡ goes h → ConstraintHeld g next h
constraint_held g next h e =
    let a = held _ _ _ h e in
    let b = held _ _ _ h a.1 in
    record { due = a.0; few = b.0; further = b.1 }

pub record SumHeld (g : Tally) (body : List ℕ) (after : ℕ) (h : Tally) : Type 0 where
  pub long : eqb (length body) 14 ≡ true
  pub two_ends : ends_good g.n (get_or body 0 0) (get_or body 1 0) ≡ true
  pub good : sum_body_good body ≡ true
  pub result : h ≡ with_constraint g after

pub sum_held : (g : Tally) (body : List ℕ) (after : ℕ) (h : Tally) → sum_step g body after ≡ goes h → SumHeld g body after h
sum_held g body after h e =
    let a = held _ _ _ h e in
    let b = held _ _ _ h a.1 in
    let d = held _ _ _ h b.1 in
    record { long = a.0; two_ends = b.0; good = d.0; result = same_tally _ h d.1 }

pub record TableHeld (g : Tally) (a b : ℕ) (rows : List ℕ) (after : ℕ) (h : Tally) : Type 0 where
  pub two_ends : ends_good g.n a b ≡ true
  pub long : eqb (length rows) (8 * size_at g.variables a) ≡ true
  pub good : rows_good (size_at g.variables a) (size_at g.variables b) rows ≡ true
  pub result : h ≡ with_constraint g after

pub table_held : (g : Tally) (a b : ℕ) (rows : List ℕ) (after : ℕ) (h : Tally) → table_step g a b rows after ≡ goes h → TableHeld g a b rows after h
table_held g a b rows after h e =
    let p = held _ _ _ h e in
    let q = held _ _ _ h p.1 in
    let r = held _ _ _ h q.1 in
    record { two_ends = p.0; long = q.0; good = r.0; result = same_tally _ h r.1 }

pub record MoveHeld (g : Tally) (body : List ℕ) (h : Tally) : Type 0 where
  pub due : complete g ≡ true
  pub long : eqb (length body) 2 ≡ true
  pub result : h ≡ with_move g

pub move_held : (g : Tally) (body : List ℕ) (h : Tally) → move_step g body ≡ goes h → MoveHeld g body h
move_held g body h e =
    let a = held _ _ _ h e in
    let b = held _ _ _ h a.1 in
    record { due = a.0; long = b.0; result = same_tally _ h b.1 }

-- after the end nothing goes on
pub end_goes : (g : Tally) (body : List ℕ) (h : Tally) → end_step g body ≡ goes h → ⊥
end_goes g body h e =
    let a = held (complete g) OutOfTurn _ h e in
    let b = held (eqb (length body) 0) WrongLength _ h a.1 in
    goes_not_ends h (sym b.1)

-- what a record that goes on has passed, by what it shows
abbrev pub GoesHeld : Tally → Shown → ℕ → Tally → Type 0
GoesHeld g (shows_heading body) after h = HeadingHeld g body after h
GoesHeld g (shows_variable body) after h = VariableHeld g body after h
GoesHeld g (shows_sum body) after h = ConstraintHeld g (sum_step g body after) h × SumHeld g body after h
GoesHeld g (shows_table a b rows place) after h = ConstraintHeld g (table_step g a b rows after) h × TableHeld g a b rows after h
GoesHeld g (shows_short_table body) after h = ⊥
GoesHeld g (shows_add body) after h = MoveHeld g body h
GoesHeld g (shows_retract body) after h = MoveHeld g body h
GoesHeld g (shows_end body) after h = ⊥

pub goes_held : (g : Tally) (s : Shown) (after : ℕ) (h : Tally) → step g s after ≡ goes h → GoesHeld g s after h
goes_held g (shows_heading body) after h e = heading_held g body after h e
goes_held g (shows_variable body) after h e = variable_held g body after h e
goes_held g (shows_sum body) after h e = let c = constraint_held g (sum_step g body after) h e in (c, sum_held g body after h c.further)
goes_held g (shows_table a b rows place) after h e =
    let c = constraint_held g (table_step g a b rows after) h e in (c, table_held g a b rows after h c.further)
goes_held g (shows_short_table body) after h e = stopped WrongLength h (constraint_held g (stops WrongLength) h e).further
goes_held g (shows_add body) after h e = move_held g body h e
goes_held g (shows_retract body) after h e = move_held g body h e
goes_held g (shows_end body) after h e = end_goes g body h e

-- only the end record ends
abbrev pub EndHeld : Tally → Shown → Type 0
EndHeld g (shows_heading body) = ⊥
EndHeld g (shows_variable body) = ⊥
EndHeld g (shows_sum body) = ⊥
EndHeld g (shows_table a b rows place) = ⊥
EndHeld g (shows_short_table body) = ⊥
EndHeld g (shows_add body) = ⊥
EndHeld g (shows_retract body) = ⊥
EndHeld g (shows_end body) = (complete g ≡ true) × (eqb (length body) 0 ≡ true)

heading_end : (g : Tally) (body : List ℕ) (after : ℕ) → heading_step g body after ≡ ends → ⊥
heading_end g body after e =
    let p = held_end (eqb g.n 0) OutOfTurn _ e in
    let q = held_end (eqb (length body) 4) WrongLength _ p.1 in
    let r = held_end (eqb (number2 body 0) 1 && between 1 32 (number2 body 2)) BadHeading _ q.1 in
    goes_not_ends (with_heading g (number2 body 2) after) r.1

variable_end : (g : Tally) (body : List ℕ) (after : ℕ) → variable_step g body after ≡ ends → ⊥
variable_end g body after e =
    let p = held_end (ltb (length g.variables) g.n) OutOfTurn _ e in
    let q = held_end (eqb (length body) 4) WrongLength _ p.1 in
    let r = held_end (between 1 64 (number2 body 0)) BadSize _ q.1 in
    let t = held_end (house_good g (number2 body 2)) BadHouse _ r.1 in
    goes_not_ends (with_variable g (variable_of body) after) t.1

constraint_end : (g : Tally) (next : Step) → constraint_step g next ≡ ends → next ≡ ends
constraint_end g next e =
    let a = held_end (constraints_due g) OutOfTurn (unless (ltb g.constraints 96) TooManyConstraints next) e in
    let b = held_end (ltb g.constraints 96) TooManyConstraints next a.1 in
    b.1

sum_end : (g : Tally) (body : List ℕ) (after : ℕ) → sum_step g body after ≡ ends → ⊥
sum_end g body after e =
    let p = held_end (eqb (length body) 14) WrongLength _ e in
    let q = held_end (ends_good g.n (get_or body 0 0) (get_or body 1 0)) BadEnds _ p.1 in
    let r = held_end (sum_body_good body) BadSum _ q.1 in
    goes_not_ends (with_constraint g after) r.1

table_end : (g : Tally) (a b : ℕ) (rows : List ℕ) (after : ℕ) → table_step g a b rows after ≡ ends → ⊥
table_end g a b rows after e =
    let p = held_end (ends_good g.n a b) BadEnds _ e in
    let q = held_end (eqb (length rows) (8 * size_at g.variables a)) WrongLength _ p.1 in
    let r = held_end (rows_good (size_at g.variables a) (size_at g.variables b) rows) BadRow _ q.1 in
    goes_not_ends (with_constraint g after) r.1

move_end : (g : Tally) (body : List ℕ) → move_step g body ≡ ends → ⊥
move_end g body e =
    let p = held_end (complete g) OutOfTurn _ e in
    let q = held_end (eqb (length body) 2) WrongLength _ p.1 in
    goes_not_ends (with_move g) q.1

pub end_held : (g : Tally) (s : Shown) (after : ℕ) → step g s after ≡ ends → EndHeld g s
end_held g (shows_heading body) after e = heading_end g body after e
end_held g (shows_variable body) after e = variable_end g body after e
end_held g (shows_sum body) after e = sum_end g body after (constraint_end g (sum_step g body after) e)
end_held g (shows_table a b rows place) after e = table_end g a b rows after (constraint_end g (table_step g a b rows after) e)
end_held g (shows_short_table body) after e = stopped_end WrongLength (constraint_end g (stops WrongLength) e)
end_held g (shows_add body) after e = move_end g body e
end_held g (shows_retract body) after e = move_end g body e
end_held g (shows_end body) after e =
    let a = held_end (complete g) OutOfTurn (unless (eqb (length body) 0) WrongLength ends) e in
    let b = held_end (eqb (length body) 0) WrongLength ends a.1 in
    (a.0, b.0)

-- a record adds at most one move
pub step_moves : (g : Tally) (s : Shown) (after : ℕ) (h : Tally) → step g s after ≡ goes h → h.moves ≤ g.moves + 1
step_moves g (shows_heading body) after h e = let k = ap (λ x. x.moves) (heading_held g body after h e).result in omega arith
step_moves g (shows_variable body) after h e = let k = ap (λ x. x.moves) (variable_held g body after h e).result in omega arith
step_moves g (shows_sum body) after h e =
    let k = ap (λ x. x.moves) (sum_held g body after h (constraint_held g _ h e).further).result in omega arith
step_moves g (shows_table a b rows place) after h e =
    let k = ap (λ x. x.moves) (table_held g a b rows after h (constraint_held g _ h e).further).result in omega arith
step_moves g (shows_short_table body) after h e = absurd (stopped _ h (constraint_held g _ h e).further)
step_moves g (shows_add body) after h e = let k = ap (λ x. x.moves) (move_held g body h e).result in omega arith
step_moves g (shows_retract body) after h e = let k = ap (λ x. x.moves) (move_held g body h e).result in omega arith
step_moves g (shows_end body) after h e =
    absurd (end_goes g body h e)
