-- The variables of a sheet: where they stand, that their numbers are a numbering, and their sizes by house number.
use Rattle.std.proofs.Common.{◌≡◌, ℕ, zero, suc, ◌+◌, ◌*◌, ◌<◌, ◌≤◌, eqb, ltb, List, [], ◌∷◌, ◌++◌, map, length, get_or, take, drop, Ok, Err, sym, refl, ap, ◌∙◌, subst, ⊎_elim, arith}
use Rattle.std.specs.List.{flat_map}
use Rattle.std.proofs.lemmas.List.{drop-drop, length-drop, length-take-le, get_or-take, at_drop_more, at_drop_all}
use Rattle.std.proofs.lemmas.List.Concat.{flat_map-append}
use Rattle.std.proofs.ByRecursion.{All-get_or}
use Rattle.std.proofs.lemmas.List.FromFn.{length-map-range_with_len, get_or-map-range_with_len, fill_by_all}
use Rattle.std.proofs.lemmas.Bool.{cases_lt, lt-ltb, le-ltb, eq-eqb, ne_eqb, cond-true, cond-false}
use Rattle.catalog.specs.Numbered.{IsNumbering, entry}
use Rattle.sheet_format.specs.declared.faults.SheetFault.{SheetFault}
use Rattle.sheet_format.specs.declared.found.Variable.{Variable}
use Rattle.sheet_format.specs.declared.found.Summary.{Summary}
use Rattle.sheet_format.specs.Numbers.{number2}
use Rattle.sheet_format.specs.Value.{Sheet, no_variable, size_at, house_at, ValidVariable, HousesDiffer}
use Rattle.sheet_format.specs.Encoding.{framed, heading_record, variable_record, constraint_record, move_record, end_record, Valid}
use Rattle.sheet_format.specs.Decoding.{decode}
use Rattle.sheet_format.specs.Verdict.{verdict}
use Rattle.sheet_format.specs.Law.{Encodes}
use Rattle.sheet_law.proofs.NumberLaws.{two_back, number2-drop}
use Rattle.sheet_catalog.specs.Meant.{empty_sheet, sheet_in}
use Rattle.sheet_catalog.specs.Placed.{number_of, numbers_of, size_of_house, SizesOf}
use Rattle.sheet_catalog.specs.Lawfulness.{accepted_in, refused_in}

-- the variable e in the bytes of variables, eight bytes each
among : (vs : List Variable) (e : ℕ) (rest : List ℕ) → e < length vs
    → (ys : List ℕ) × (drop (8 * e) (flat_map framed (map variable_record vs) ++ rest) ≡ framed (variable_record (get_or vs e no_variable)) ++ ys)
among [] e rest h = absurd (omega arith)
among (v ∷ vs) zero rest h = (flat_map framed (map variable_record vs) ++ rest, refl)
among (v ∷ vs) (suc e) rest h =
    let r = among vs e rest (omega arith) in
    let step : 8 * suc e ≡ 8 + 8 * e = omega arith in
    (r.0, ap (λ n. drop n (flat_map framed (map variable_record (v ∷ vs)) ++ rest)) step ∙ sym (drop-drop (8 * e) 8 (flat_map framed (map variable_record (v ∷ vs)) ++ rest)) ∙ r.1)

pub record VariableThere (bytes : List ℕ) (e : ℕ) : Type 0 where
  pub inside : 8 + 8 * e + 8 ≤ length bytes
  pub size : number2 bytes (8 + 8 * e + 4) ≡ size_at (decode bytes).variables e
  pub house : number2 bytes (8 + 8 * e + 6) ≡ house_at (decode bytes).variables e

pub variable_there : (bytes : List ℕ) (z : Summary) (e : ℕ) → Encodes bytes z → e < z.variables → VariableThere bytes e
variable_there bytes z e l h =
    let s : Sheet = decode bytes in
    let low : e < length (decode bytes).variables = subst (λ v. e < v.variables) l.sums_up h in
    let rest : List ℕ = flat_map framed (map constraint_record s.constraints ++ (map move_record s.moves ++ (end_record ∷ []))) in
    let a = among s.variables e rest low in
    let v : Variable = get_or s.variables e no_variable in
    let valid : ValidVariable (length (decode bytes).variables) (get_or (decode bytes).variables e no_variable) =
    All-get_or (ValidVariable (length s.variables)) s.variables e no_variable low l.valid.variables_valid in
    let n : length (decode bytes).variables ≤ 32 = l.valid.few_variables in
    let small : (get_or (decode bytes).variables e no_variable).size ≤ 64 = valid.few_values in
    let houses : (get_or (decode bytes).variables e no_variable).house < length (decode bytes).variables = valid.house_low in
    let there : drop (8 + 8 * e) bytes ≡ framed (variable_record v) ++ a.0 =
    ap (drop (8 + 8 * e)) (sym l.same)
    ∙ ap (λ ys. drop (8 + 8 * e) (framed (heading_record (length s.variables)) ++ ys)) (flat_map-append framed (map variable_record s.variables) _)
    ∙ sym (drop-drop (8 * e) 8 (framed (heading_record (length s.variables)) ++ (flat_map framed (map variable_record s.variables) ++ rest)))
    ∙ a.1 in
    let long = ap length there in
    let cut = length-drop (8 + 8 * e) bytes in
    record {
      inside = omega arith;
      size = sym (number2-drop bytes (8 + 8 * e) 4) ∙ ap (λ ys. number2 ys 4) there ∙ two_back v.size [] (omega arith);
      house = sym (number2-drop bytes (8 + 8 * e) 6) ∙ ap (λ ys. number2 ys 6) there ∙ two_back v.house [] (omega arith);
    }

-- the numbers one by one
pub number_low : (s : Sheet) (e : ℕ) → e < length s.variables → number_of s e ≡ house_at s.variables e
number_low s e h = cond-true (ltb e (length s.variables)) (house_at s.variables e) e (lt-ltb e (length s.variables) h)

pub number_high : (s : Sheet) (e : ℕ) → length s.variables ≤ e → number_of s e ≡ e
number_high s e h = cond-false (ltb e (length s.variables)) (house_at s.variables e) e (le-ltb e (length s.variables) h)

pub numbers_long : (s : Sheet) → length (numbers_of s) ≡ 32
unfolding numbers_of
numbers_long s = length-map-range_with_len (number_of s) 0 32

pub numbers_at : (s : Sheet) (e : ℕ) → e < 32 → get_or (numbers_of s) e 0 ≡ number_of s e
unfolding numbers_of
numbers_at s e h = get_or-map-range_with_len (number_of s) 0 32 e e 0 h (omega arith)

house_below : (s : Sheet) (e : ℕ) → Valid s → e < length s.variables → house_at s.variables e < length s.variables
house_below s e v h = (All-get_or (ValidVariable (length s.variables)) s.variables e no_variable h v.variables_valid).house_low

number_below : (s : Sheet) (e : ℕ) → Valid s → e < 32 → number_of s e < 32
number_below s e v h =
    let few : length s.variables ≤ 32 = v.few_variables in
    ⊎_elim (λ l. let k = number_low s e l in let j = house_below s e v l in omega arith) (λ l. let k = number_high s e l in omega arith) (cases_lt e (length s.variables))

numbers_apart : (s : Sheet) (e e' : ℕ) → Valid s → e < e' → number_of s e ≡ number_of s e' → ⊥
numbers_apart s e e' v h q =
    ⊎_elim
    (λ l.
    let k = number_low s e l in
    let j = house_below s e v l in
    ⊎_elim (λ l'. let i = v.houses_differ e e' l l' (sym k ∙ q ∙ number_low s e' l') in omega arith) (λ l'. let i = number_high s e' l' in omega arith) (cases_lt e' (length s.variables)))
    (λ l. let k = number_high s e l in let i = number_high s e' (omega arith) in omega arith)
    (cases_lt e (length s.variables))

-- the numbers of a valid sheet are a numbering
pub numbering : (s : Sheet) → Valid s → IsNumbering (numbers_of s)
numbering s v = record {
  full = numbers_long s;
  low = λ e h. subst (λ n. n < 32) (sym (numbers_at s e h)) (number_below s e v h);
  apart = λ e e' l h q. numbers_apart s e e' v l (sym (numbers_at s e (omega arith)) ∙ q ∙ numbers_at s e' h);
}

-- with house numbers that differ, a variable's size is found by its house number
pub size_found : (vs : List Variable) (e : ℕ) → HousesDiffer vs → e < length vs → size_of_house vs (house_at vs e) ≡ size_at vs e
size_found [] e d h = absurd (omega arith)
size_found (v ∷ vs) zero d h = cond-true (eqb v.house v.house) v.size _ (eq-eqb v.house v.house refl)
size_found (v ∷ vs) (suc e) d h =
    cond-false (eqb v.house (house_at vs e)) v.size (size_of_house vs (house_at vs e))
    (ne_eqb v.house (house_at vs e) (λ q. let z : 0 ≡ suc e = d 0 (suc e) (omega arith) h q in omega arith))
    ∙ size_found vs e (λ i j a b q. let z : suc i ≡ suc j = d (suc i) (suc j) (omega arith) (omega arith) q in omega arith) (omega arith)

-- a list that has the right sizes by house numbers is that of a valid sheet
pub sizes_of : (s : Sheet) (sizes : List ℕ) → Valid s → length sizes ≡ length s.variables
    → ((h : ℕ) → h < length s.variables → get_or sizes h 0 ≡ size_of_house s.variables h) → SizesOf s sizes
sizes_of s sizes v many each = record {
  many = many;
  each = each;
  back = λ e h. each (house_at s.variables e) (house_below s e v h) ∙ size_found s.variables e v.houses_differ h;
}

-- a list that has the numbers one by one
pub numbers_all : (s : Sheet) (xs : List ℕ) → length xs ≡ 32 → ((k : ℕ) → k < 32 → get_or xs k 0 ≡ number_of s k) → xs ≡ numbers_of s
unfolding numbers_of
numbers_all s xs l each = fill_by_all (number_of s) xs 32 0 l each

-- of refused bytes each number is its own index
pub own_numbers : (bytes : List ℕ) (f : SheetFault) (xs : List ℕ) → Err f ≡ verdict bytes → length xs ≡ 32 → ((e : ℕ) → e < 32 → entry xs e ≡ e) → xs ≡ numbers_of (sheet_in bytes)
own_numbers bytes f xs r l each =
    numbers_all empty_sheet xs l (λ k h. each k h ∙ sym (number_high empty_sheet k (omega arith))) ∙ ap numbers_of (sym (refused_in bytes f r))

pub many_in : (bytes : List ℕ) (z : Summary) → Encodes bytes z → z.variables ≡ length (decode bytes).variables
many_in bytes z e = ap (λ v. v.variables) e.sums_up

-- one variable more on the way to a house number
pub house_here : (vs : List Variable) (e h : ℕ) (v : Variable) → e < length vs → v ≡ get_or vs e no_variable → v.house ≡ h → size_of_house (drop e vs) h ≡ v.size
house_here vs e h v l same q =
    let at : (get_or vs e no_variable).house ≡ h = ap (λ w. w.house) (sym same) ∙ q in
    at_drop_more (λ xs. size_of_house xs h) vs e no_variable l
    ∙ cond-true (eqb (get_or vs e no_variable).house h) (get_or vs e no_variable).size (size_of_house (drop (e + 1) vs) h) (eq-eqb (get_or vs e no_variable).house h at)
    ∙ ap (λ w. w.size) (sym same)

pub house_later : (vs : List Variable) (e h : ℕ) (v : Variable) → e < length vs → v ≡ get_or vs e no_variable → (v.house ≡ h → ⊥) → size_of_house (drop (e + 1) vs) h ≡ size_of_house (drop e vs) h
house_later vs e h v l same q =
    sym
    (at_drop_more (λ xs. size_of_house xs h) vs e no_variable l
    ∙ cond-false (eqb (get_or vs e no_variable).house h) (get_or vs e no_variable).size (size_of_house (drop (e + 1) vs) h) (ne_eqb (get_or vs e no_variable).house h (λ p. q (ap (λ w. w.house) same ∙ p))))

pub house_nowhere : (vs : List Variable) (e h : ℕ) → length vs ≤ e → size_of_house (drop e vs) h ≡ 0
house_nowhere vs e h l = at_drop_all (λ xs. size_of_house xs h) vs e l

-- the sizes of accepted bytes, cut off after as many as there are variables
pub sizes_in : (bytes : List ℕ) (z : Summary) (sizes : List ℕ) → Ok z ≡ verdict bytes → Encodes bytes z → length sizes ≡ 32
    → ((h : ℕ) → h < 32 → get_or sizes h 0 ≡ size_of_house (decode bytes).variables h) → SizesOf (sheet_in bytes) (take z.variables sizes)
sizes_in bytes z sizes r e wide each =
    let many : z.variables ≡ length (decode bytes).variables = many_in bytes z e in
    let few : length (decode bytes).variables ≤ 32 = e.valid.few_variables in
    let long : length (take z.variables sizes) ≡ z.variables = length-take-le z.variables sizes (omega arith) in
    subst (λ s. SizesOf s (take z.variables sizes)) (sym (accepted_in bytes z r))
    (sizes_of (decode bytes) (take z.variables sizes) e.valid (long ∙ many) (λ h l. get_or-take z.variables sizes h 0 (omega arith) ∙ each h (omega arith)))
