-- What is read where a constraint begins.
use Rattle.std.proofs.Common.{◌≡◌, ℕ, ◌+◌, ◌*◌, ◌<◌, ◌≤◌, List, [], ◌∷◌, ◌++◌, map, length, take, drop, set, sym, refl, ap, ◌∙◌, subst, add-zero, arith, below_more}
use Rattle.std.specs.List.{flat_map, AllByRecursion}
use Rattle.std.proofs.lemmas.List.{append_assoc, take-append-drop, drop_more, drop-drop, drop_at, take_at, length-drop, get_or-set_same, get_or-set_other}
use Rattle.std.proofs.lemmas.List.Concat.{flat_map-append}
use Rattle.sheet_format.specs.declared.found.Variable.{Variable}
use Rattle.sheet_format.specs.declared.found.Summary.{Summary}
use Rattle.sheet_format.specs.Numbers.{eight, number2}
use Rattle.sheet_format.specs.Value.{Constraint, sum, table, Sheet, size_at, ValidVariable, ValidConstraint}
use Rattle.sheet_format.specs.Encoding.{Raw, framed, heading_record, variable_record, constraint_record, move_record, end_record, encode, Valid}
use Rattle.sheet_format.specs.Decoding.{decode}
use Rattle.sheet_format.specs.Law.{Encodes}
use Rattle.sheet_law.proofs.NumberLaws.{number2-drop}
use Rattle.sheet_law.proofs.Framing.{Short, framed-length, variables_long, framed_first}
use Rattle.sheet_law.proofs.Rows.{rows_there}
use Rattle.sheet_law.proofs.Forward.{size_low}
use Rattle.sheet_catalog.specs.Meant.{constraint_at, no_constraint}
use Rattle.sheet_catalog.specs.StartsAt.{BeginsAt, StartsAt}
use Rattle.sheet_catalog.specs.Lawfulness.{constraint_valid}

-- the bytes after the constraints
abbrev pub after_constraints : Sheet → List ℕ
after_constraints s = flat_map framed (map move_record s.moves ++ (end_record ∷ []))

-- the bytes from the constraint p on
abbrev pub from_constraint : Sheet → ℕ → List ℕ
from_constraint s p = flat_map framed (map constraint_record (drop p s.constraints)) ++ after_constraints s

-- the constraints begin after the heading and the variables
pub first_start : (s : Sheet) → drop (8 + 8 * length s.variables) (encode s) ≡ from_constraint s 0
first_start s =
    let vs : List ℕ = flat_map framed (map variable_record s.variables) in
    let cs : List ℕ = flat_map framed (map constraint_record s.constraints) in
    let head : List ℕ = framed (heading_record (length s.variables)) in
    let whole : encode s ≡ (head ++ vs) ++ from_constraint s 0 =
    ap (λ ys. head ++ ys) (flat_map-append framed (map variable_record s.variables) _ ∙ ap (λ ys. vs ++ ys) (flat_map-append framed (map constraint_record s.constraints) _))
    ∙ sym (append_assoc head vs (from_constraint s 0)) in
    let long : length (head ++ vs) ≡ 8 + 8 * length s.variables = (let k = variables_long s.variables in omega arith) in
    ap (drop (8 + 8 * length s.variables)) whole ∙ drop_at (head ++ vs) (from_constraint s 0) (8 + 8 * length s.variables) long

-- the constraint p, and the bytes from the next on
pub next_start : (s : Sheet) (p : ℕ) → p < length s.constraints → from_constraint s p ≡ framed (constraint_record (constraint_at s p)) ++ from_constraint s (p + 1)
next_start s p h =
    ap (λ cs. flat_map framed (map constraint_record cs) ++ after_constraints s) (drop_more s.constraints p no_constraint h)
    ∙ append_assoc (framed (constraint_record (constraint_at s p))) (flat_map framed (map constraint_record (drop (p + 1) s.constraints))) (after_constraints s)

-- a list that is a record and more begins with it
pub begins : (bytes : List ℕ) (start : ℕ) (r : Raw) (rest : List ℕ) → drop start bytes ≡ framed r ++ rest → BeginsAt bytes start r
begins bytes start r rest e = ap (take (length (framed r))) e ∙ take_at (framed r) rest (length (framed r)) refl

pub begun_rest : (bytes : List ℕ) (start : ℕ) (r : Raw) → BeginsAt bytes start r → drop start bytes ≡ framed r ++ drop (length (framed r)) (drop start bytes)
begun_rest bytes start r e = sym (take-append-drop (length (framed r)) (drop start bytes)) ∙ ap (λ ys. ys ++ drop (length (framed r)) (drop start bytes)) e

-- a record that begins somewhere has its four bytes of head there
pub begun_low : (bytes : List ℕ) (start : ℕ) (r : Raw) → BeginsAt bytes start r → start + 4 ≤ length bytes
begun_low bytes start r e =
    let k = ap length (begun_rest bytes start r e) in
    let l = framed-length r (drop (length (framed r)) (drop start bytes)) in
    let m = length-drop start bytes in
    omega arith

-- the records of constraints are short
pub constraint_short : (vs : List Variable) (c : Constraint) → AllByRecursion (ValidVariable (length vs)) vs → ValidConstraint vs c → Short (constraint_record c)
constraint_short vs (sum a b m k lo hi) valid v = record { kind_low = omega arith; length_low = omega arith }
constraint_short vs (table a b rows) valid v =
    let low : size_at vs b ≤ 64 = size_low (length vs) vs b valid v.ends.b_low in
    let few : size_at vs a ≤ 64 = size_low (length vs) vs a valid v.ends.a_low in
    let many : length rows ≡ size_at vs a = v.a_row_each in
    let long : length (flat_map eight rows) ≡ 8 * length rows = (rows_there (size_at vs b) rows [] low v.low_bits).2 in
    record { kind_low = omega arith; length_low = omega arith }

-- where the constraints of accepted bytes begin
pub first_place : (bytes : List ℕ) (z : Summary) → Encodes bytes z → drop z.constraints_at bytes ≡ from_constraint (decode bytes) 0
first_place bytes z e =
    ap (λ v. drop v.constraints_at bytes) e.sums_up
    ∙ ap (drop (8 + 8 * length (decode bytes).variables)) (sym e.same)
    ∙ first_start (decode bytes)

-- One step through the constraints: at a place from which the constraint p and all after it follow.
pub record Stepped (bytes : List ℕ) (s : Sheet) (p place : ℕ) : Type 0 where
  pub begun : BeginsAt bytes place (constraint_record (constraint_at s p))
  pub inside : place + 4 ≤ length bytes
  pub low : number2 bytes place < 65536
  pub onward : drop (place + number2 bytes place) bytes ≡ from_constraint s (p + 1)

pub stepped : (bytes : List ℕ) (s : Sheet) (p place : ℕ) → Valid s → p < length s.constraints → drop place bytes ≡ from_constraint s p → Stepped bytes s p place
stepped bytes s p place v h e =
    let r : Raw = constraint_record (constraint_at s p) in
    let rest : List ℕ = from_constraint s (p + 1) in
    let there : drop place bytes ≡ framed r ++ rest = e ∙ next_start s p h in
    let short : Short r = constraint_short s.variables (constraint_at s p) v.variables_valid (constraint_valid s p v h) in
    let f = framed_first r rest short in
    let begun : BeginsAt bytes place r = begins bytes place r rest there in
    let long : number2 bytes place ≡ 4 + length r.body = sym (number2-drop bytes place 0 ∙ ap (number2 bytes) (add-zero place)) ∙ ap (λ ys. number2 ys 0) there ∙ f.0 in
    let fits : 4 + length r.body < 65536 = short.length_low in
    record {
      begun = begun;
      inside = begun_low bytes place r begun;
      low = subst (λ n. n < 65536) (sym long) fits;
      onward =
          sym (drop-drop (number2 bytes place) place bytes)
          ∙ ap (λ n. drop n (drop place bytes)) long
          ∙ ap (drop (4 + length r.body)) there
          ∙ f.3;
    }

-- the same for accepted bytes
pub stepped_in : (bytes : List ℕ) (z : Summary) (p place : ℕ) → Encodes bytes z → p < z.constraints → drop place bytes ≡ from_constraint (decode bytes) p → Stepped bytes (decode bytes) p place
stepped_in bytes z p place e h = stepped bytes (decode bytes) p place e.valid (subst (λ v. p < v.constraints) e.sums_up h)

pub few_in : (bytes : List ℕ) (z : Summary) → Encodes bytes z → z.constraints ≤ 96
few_in bytes z e = subst (λ v. v.constraints ≤ 96) (sym e.sums_up) e.valid.few_constraints

pub short_in : (bytes : List ℕ) (z : Summary) → Encodes bytes z → length bytes ≤ 65535
short_in bytes z e = subst (λ ys. length ys ≤ 65535) e.same e.valid.short

-- one start more
pub begun_more : (bytes : List ℕ) (s : Sheet) (starts : List ℕ) (p place : ℕ) → p < length starts → ((k : ℕ) → k < p → StartsAt bytes s starts k)
    → BeginsAt bytes place (constraint_record (constraint_at s p)) → (k : ℕ) → k < p + 1 → StartsAt bytes s (set starts p place) k
begun_more bytes s starts p place l before here =
    below_more (λ k. StartsAt bytes s (set starts p place) k) p
    (λ k h. subst (λ q. BeginsAt bytes q (constraint_record (constraint_at s k))) (sym (get_or-set_other starts p k place 0 (omega arith))) (before k h))
    (subst (λ q. BeginsAt bytes q (constraint_record (constraint_at s p))) (sym (get_or-set_same starts p place 0 l)) here)
