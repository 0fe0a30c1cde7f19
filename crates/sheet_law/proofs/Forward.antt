-- The walk goes on through the records of a beginning of a sheet.
use Rattle.std.proofs.Common.{◌≡◌, ℕ, zero, suc, ◌+◌, ◌*◌, ◌<◌, ◌≤◌, Bool, true, false, not, eqb, ltb, List, [], ◌∷◌, ◌++◌, map, length, ℤ, Some, sym, refl, ap, ◌∙◌, subst, zero-add, arith}
use Rattle.std.specs.List.{flat_map, AllByRecursion}
use Rattle.std.proofs.lemmas.Grind.{flat_map-append}
use Rattle.std.proofs.lemmas.List.{append_assoc, append-nil, length-append}
use Rattle.std.proofs.ByRecursion.{All-get_or}
use Rattle.std.proofs.lemmas.Bool.{lt-ltb, le-ltb, eq-eqb, and_from, not_from_false, cond-false}
use Rattle.sheet_format.specs.declared.faults.Cause.{Cause}
use Rattle.sheet_format.specs.declared.found.Variable.{Variable}
use Rattle.sheet_format.specs.Numbers.{two, eight, number2}
use Rattle.sheet_format.specs.Value.{Constraint, sum, table, Move, add, retract, no_variable, size_at, ValidVariable, HousesDiffer, ValidSum, ValidTable, ValidConstraint, ValidMove}
use Rattle.sheet_format.specs.Encoding.{Raw, framed, heading_record, variable_record, constraint_record, move_record}
use Rattle.sheet_format.specs.Beginnings.{Begun, records_begun, Keeps, begun_tally}
use Rattle.sheet_format.specs.Reading.{Shown, shows_heading, shows_variable, shows_sum, shows_table, shows_add, shows_retract, shown}
use Rattle.sheet_format.specs.Verdict.{Tally, nothing_yet, Step, goes, unless, step, complete, constraints_due, between, used, house_good, ends_good, sum_body_good, rows_good, variable_of, with_move}
use Rattle.sheet_law.proofs.NumberLaws.{two_back}
use Rattle.sheet_law.proofs.Framing.{variables_long}
use Rattle.sheet_law.proofs.Tallies.{past, same_tally, headed, nothing_there}
use Rattle.sheet_law.proofs.Walks.{Reaches, past_all, reaches_more}
use Rattle.sheet_law.proofs.Rows.{rows_there}
use Rattle.sheet_law.proofs.Items.{is_between, valid_ends, sum_there}
use Rattle.sheet_law.proofs.Houses.{fresh}

abbrev tally : ℕ → List Variable → ℕ → ℕ → ℕ → Tally
tally n vs constraints moves reached = record { n = n; variables = vs; constraints = constraints; moves = moves; reached = reached }

pass : (b : Bool) (cause : Cause) (next : Step) (h : Tally) → b ≡ true → next ≡ goes h → unless b cause next ≡ goes h
pass true cause next h e f = f
pass false cause next h e f = absurd (let z : ◌≡◌ {A = ℕ} 0 1 = cc in omega arith)

-- all variables are there
complete_tally : (n c m p : ℕ) (vs : List Variable) → 1 ≤ n → length vs ≡ n → complete (tally n vs c m p) ≡ true
complete_tally n c m p vs some all =
    and_from (ltb 0 n) (not (ltb (length vs) n)) (lt-ltb 0 n some) (not_from_false (ltb (length vs) n) (le-ltb (length vs) n (omega arith)))

-- the heading and all its variables are there
abbrev Due : ℕ → List Variable → Type 0
Due n vs = (1 ≤ n) × (length vs ≡ n)

-- a record that shows something with which a tally goes on
abbrev Goes : Tally → ℕ → Raw → Tally → Type 0
Goes g place r h = (s : Shown) × (shown r.kind r.body place ≡ Some s) × (step g s (past place r) ≡ goes h)

-- a move goes on
move_goes : (q : Move) (g : Tally) (place : ℕ) → complete g ≡ true → Goes g place (move_record q) (with_move g)
move_goes (add q) g place all = (shows_add (two q), refl, pass (complete g) _ _ _ all refl)
move_goes (retract q) g place all = (shows_retract (two q), refl, pass (complete g) _ _ _ all refl)

-- moves
moves_reach : (ms : List Move) (n c m p place : ℕ) (vs : List Variable) → (1 ≤ length ms → Due n vs) → AllByRecursion ValidMove ms
    → Reaches (tally n vs c m p) place (map move_record ms) (tally n vs c (m + length ms) p)
moves_reach [] n c m p place vs due valid = let same : m ≡ m + 0 = omega arith in ap (λ x. tally n vs c x p) same
moves_reach (q ∷ ms) n c m p place vs due valid =
    let same : m + 1 + length ms ≡ m + length (q ∷ ms) = omega arith in
    let all : Due n vs = due (omega arith) in
    let one = move_goes q (tally n vs c m p) place (complete_tally n c m p vs all.0 all.1) in (
      one.0,
      one.1,
      (tally n vs c (m + 1) p, one.2, subst (λ x. Reaches (tally n vs c (m + 1) p) (past place (move_record q)) (map move_record ms) (tally n vs c x p)) same (moves_reach ms n c (m + 1) p (past place (move_record q)) vs (λ _. all) valid.1)),
    )

-- a valid constraint goes on
sum_goes : (n c place after a b : ℕ) (vs : List Variable) (m k lo hi : ℤ) → 1 ≤ n → length vs ≡ n → c < 96 → ValidSum (length vs) a b m k lo hi
    → step (tally n vs c 0 place) (shows_sum (constraint_record (sum a b m k lo hi)).body) after ≡ goes (tally n vs (c + 1) 0 after)
sum_goes n c place after a b vs m k lo hi some all few v =
    pass (constraints_due (tally n vs c 0 place)) _ _ _ (and_from _ _ (complete_tally n c 0 place vs some all) refl)
    (pass (ltb c 96) _ _ _ (lt-ltb c 96 few)
    (pass (ends_good n a b) _ _ _ (subst (λ x. ends_good x a b ≡ true) all (valid_ends (length vs) a b v.ends))
    (pass (sum_body_good (constraint_record (sum a b m k lo hi)).body) _ _ _ (sum_there (length vs) a b m k lo hi v).1 refl)))

pub size_low : (n : ℕ) (vs : List Variable) (i : ℕ) → AllByRecursion (ValidVariable n) vs → i < length vs → size_at vs i ≤ 64
size_low n vs i valid l = (All-get_or (ValidVariable n) vs i no_variable l valid).few_values

table_goes : (n c place after a b : ℕ) (vs : List Variable) (rows : List ℕ) → 1 ≤ n → length vs ≡ n → c < 96 → AllByRecursion (ValidVariable n) vs → ValidTable vs a b rows → (at : ℕ)
    → step (tally n vs c 0 place) (shows_table a b (flat_map eight rows) at) after ≡ goes (tally n vs (c + 1) 0 after)
table_goes n c place after a b vs rows some all few valid v at =
    let there = rows_there (size_at vs b) rows [] (size_low n vs b valid v.ends.b_low) v.low_bits in
    let good : rows_good (length rows) (size_at vs b) (flat_map eight rows) ≡ true = subst (λ xs. rows_good (length rows) (size_at vs b) xs ≡ true) (append-nil (flat_map eight rows)) there.0 in
    pass (constraints_due (tally n vs c 0 place)) _ _ _ (and_from _ _ (complete_tally n c 0 place vs some all) refl)
    (pass (ltb c 96) _ _ _ (lt-ltb c 96 few)
    (pass (ends_good n a b) _ _ _ (subst (λ x. ends_good x a b ≡ true) all (valid_ends (length vs) a b v.ends))
    (pass (eqb (length (flat_map eight rows)) (8 * size_at vs a)) _ _ _ (eq-eqb _ _ (there.2 ∙ ap (λ x. 8 * x) v.a_row_each))
    (pass (rows_good (size_at vs a) (size_at vs b) (flat_map eight rows)) _ _ _ (subst (λ x. rows_good x (size_at vs b) (flat_map eight rows) ≡ true) v.a_row_each good) refl))))

table_shown : (a b place : ℕ) (rows : List ℕ) → shown 4 (a ∷ (b ∷ flat_map eight rows)) place ≡ Some (shows_table a b (flat_map eight rows) (place + 6))
table_shown a b place rows = ap Some (cond-false (ltb (length (a ∷ (b ∷ flat_map eight rows))) 2) _ _ (le-ltb _ 2 (omega arith)))

constraint_goes : (d : Constraint) (n c place : ℕ) (vs : List Variable) → 1 ≤ n → length vs ≡ n → c < 96 → AllByRecursion (ValidVariable n) vs → ValidConstraint vs d
    → Goes (tally n vs c 0 place) place (constraint_record d) (tally n vs (c + 1) 0 (past place (constraint_record d)))
constraint_goes (sum a b m l lo hi) n c place vs some all few valid v = (shows_sum _, refl, sum_goes n c place _ a b vs m l lo hi some all few v)
constraint_goes (table a b rows) n c place vs some all few valid v =
    (shows_table a b (flat_map eight rows) (place + 6), table_shown a b place rows, table_goes n c place _ a b vs rows some all few valid v (place + 6))

constraints_reach : (cs : List Constraint) (n c place : ℕ) (vs : List Variable) → (1 ≤ length cs → Due n vs) → AllByRecursion (ValidVariable n) vs → AllByRecursion (ValidConstraint vs) cs → c + length cs ≤ 96
    → Reaches (tally n vs c 0 place) place (map constraint_record cs) (tally n vs (c + length cs) 0 (place + length (flat_map framed (map constraint_record cs))))
constraints_reach [] n c place vs due valid good few =
    let e : c ≡ c + 0 = omega arith in
    let f : place ≡ place + 0 = omega arith in
    ap (λ x. tally n vs x 0 place) e ∙ ap (tally n vs (c + 0) 0) f
constraints_reach (d ∷ cs) n c place vs due valid good few =
    let r : Raw = constraint_record d in
    let q : ℕ = past place (constraint_record d) in
    let e : c + 1 + length cs ≡ c + length (d ∷ cs) = omega arith in
    let all : Due n vs = due (omega arith) in
    let one = constraint_goes d n c place vs all.0 all.1 (omega arith) valid good.0 in (
      one.0,
      one.1,
      (
        tally n vs (c + 1) 0 q,
        one.2,
        subst (λ p. Reaches (tally n vs (c + 1) 0 q) q (map constraint_record cs) (tally n vs (c + length (d ∷ cs)) 0 p)) (past_all place r (map constraint_record cs))
            (subst (λ x. Reaches (tally n vs (c + 1) 0 q) q (map constraint_record cs) (tally n vs x 0 (q + length (flat_map framed (map constraint_record cs))))) e (constraints_reach cs n (c + 1) q vs (λ _. all) valid good.1 (omega arith))),
      ),
    )

-- a valid variable reads back from its record
pub variable_again : (n : ℕ) (v : Variable) → n ≤ 32 → ValidVariable n v → variable_of (variable_record v).body ≡ v
variable_again n v small valid =
    let low : v.house < n = valid.house_low in
    let few : v.size ≤ 64 = valid.few_values in
    let size : number2 (variable_record v).body 0 ≡ v.size = two_back v.size (two v.house) (omega arith) in
    let house : number2 (variable_record v).body 2 ≡ v.house = two_back v.house [] (omega arith) in
    ap (λ x. record { size = x; house = number2 (variable_record v).body 2 }) size ∙ ap (λ x. record { size = v.size; house = x }) house

-- a valid variable goes on
variable_goes : (n place after : ℕ) (us : List Variable) (v : Variable) → n ≤ 32 → length us < n → ValidVariable n v → used us v.house ≡ false
    → step (tally n us 0 0 place) (shows_variable (variable_record v).body) after ≡ goes (tally n (us ++ (v ∷ [])) 0 0 after)
variable_goes n place after us v small due valid new =
    let low : v.house < n = valid.house_low in
    let few : v.size ≤ 64 = valid.few_values in
    let same : variable_of (variable_record v).body ≡ v = variable_again n v small valid in
    let size : number2 (variable_record v).body 0 ≡ v.size = ap (λ w. w.size) same in
    let house : number2 (variable_record v).body 2 ≡ v.house = ap (λ w. w.house) same in
    pass (ltb (length us) n) _ _ _ (lt-ltb _ _ due)
    (pass (between 1 64 (number2 (variable_record v).body 0)) _ _ _ (subst (λ x. between 1 64 x ≡ true) (sym size) (is_between 1 64 v.size valid.some_values few))
    (pass (house_good (tally n us 0 0 place) (number2 (variable_record v).body 2)) _ _ _
    (subst (λ x. house_good (tally n us 0 0 place) x ≡ true) (sym house) (and_from _ _ (lt-ltb _ _ low) (not_from_false _ new)))
    (ap (λ x. goes (tally n (us ++ (x ∷ [])) 0 0 after)) same)))

variables_reach : (vs : List Variable) (n place : ℕ) (us : List Variable) → n ≤ 32 → length us + length vs ≤ n → AllByRecursion (ValidVariable n) vs → HousesDiffer (us ++ vs)
    → Reaches (tally n us 0 0 place) place (map variable_record vs) (tally n (us ++ vs) 0 0 (place + 8 * length vs))
variables_reach [] n place us small few valid differ =
    let f : place ≡ place + 8 * 0 = omega arith in
    ap (λ ws. tally n ws 0 0 place) (sym (append-nil us)) ∙ ap (tally n (us ++ []) 0 0) f
variables_reach (v ∷ vs) n place us small few valid differ =
    let regroup : (us ++ (v ∷ [])) ++ vs ≡ us ++ (v ∷ vs) = append_assoc us (v ∷ []) vs in
    let far : place + 8 + 8 * length vs ≡ place + 8 * length (v ∷ vs) = omega arith in
    let many = length-append us (v ∷ []) in
    let g : Tally = tally n (us ++ (v ∷ [])) 0 0 (place + 8) in (
      shows_variable (variable_record v).body,
      refl,
      (
        g,
        variable_goes n place (place + 8) us v small (omega arith) valid.0 (fresh us v vs differ),
        subst (λ ws. Reaches g (place + 8) (map variable_record vs) (tally n ws 0 0 (place + 8 * length (v ∷ vs)))) regroup
            (subst (λ p. Reaches g (place + 8) (map variable_record vs) (tally n ((us ++ (v ∷ [])) ++ vs) 0 0 p)) far
            (variables_reach vs n (place + 8) (us ++ (v ∷ [])) small (omega arith) valid.1 (subst HousesDiffer (sym regroup) differ))),
      ),
    )

heading_goes : (n : ℕ) → 1 ≤ n → n ≤ 32 → step nothing_yet (shows_heading (heading_record n).body) 8 ≡ goes (tally n [] 0 0 8)
heading_goes n some few =
    let here : number2 (heading_record n).body 2 ≡ n = two_back n [] (omega arith) in
    pass (between 1 32 (number2 (heading_record n).body 2)) _ _ _ (subst (λ x. between 1 32 x ≡ true) (sym here) (is_between 1 32 n some few)) (ap (λ x. goes (tally x [] 0 0 8)) here)

-- the place before the moves of a beginning
pub reached_is : (b : Begun) → 1 ≤ b.n → (begun_tally b).reached ≡ 8 + 8 * length b.variables + length (flat_map framed (map constraint_record b.constraints))
reached_is b some =
    let vars : List Raw = map variable_record b.variables in
    let cons : List Raw = map constraint_record b.constraints in
    let l = variables_long b.variables in
    let m = length-append (flat_map framed (map variable_record b.variables)) (flat_map framed (map constraint_record b.constraints)) in
    let split = flat_map-append framed (map variable_record b.variables) (map constraint_record b.constraints) in
    let n = ap length split in
    ap (λ hs. length (flat_map framed (hs ++ (vars ++ (cons ++ []))))) (headed b.n some)
    ∙ ap (λ rs. length (flat_map framed (heading_record b.n ∷ (vars ++ rs)))) (append-nil cons)
    ∙ omega arith

-- the records of a beginning reach its tally
pub begun_reaches : (b : Begun) → Keeps b → Reaches nothing_yet 0 (records_begun b) (begun_tally b)
begun_reaches b k = by b.n refl
  where
    after_heading : 1 ≤ b.n → Reaches nothing_yet 0 (records_begun b) (begun_tally b)
    after_heading some =
        let n : ℕ = b.n in
        let vs : List Variable = b.variables in
        let vars : List Raw = map variable_record b.variables in
        let cons : List Raw = map constraint_record b.constraints in
        let movs : List Raw = map move_record b.moves in
        let count : ℕ = length b.constraints in
        let q : ℕ = 8 + 8 * length b.variables in
        let p : ℕ = 8 + 8 * length b.variables + length (flat_map framed (map constraint_record b.constraints)) in
        let g : Tally = tally n [] 0 0 8 in
        let h : Tally = tally n vs 0 0 q in
        let i : Tally = tally n vs (0 + count) 0 p in
        let j : Tally = tally n vs (0 + count) (0 + length b.moves) p in
        let heading : Reaches nothing_yet 0 (heading_record n ∷ []) g = (shows_heading (heading_record n).body, refl, (g, heading_goes n some k.n_low, refl)) in
        let variables : Reaches g 8 vars h = variables_reach vs n 8 [] k.n_low (let l = k.few_variables in omega arith) k.variables_valid k.houses_differ in
        let constraints : Reaches h q cons i = constraints_reach b.constraints n 0 q vs (λ l. there (omega arith)) k.variables_valid k.constraints_valid (let l = k.few_constraints in omega arith) in
        let moves : Reaches i p movs j = moves_reach b.moves n (0 + count) 0 p p vs (λ l. there (omega arith)) k.moves_valid in
        let long = variables_long b.variables in
        let far : q ≡ 8 + length (flat_map framed (map variable_record b.variables)) = omega arith in
        let tail : Reaches h q (cons ++ movs) j = reaches_more cons movs h i j q constraints moves in
        let all : Reaches nothing_yet 0 (heading_record n ∷ (vars ++ (cons ++ movs))) j =
        reaches_more (heading_record n ∷ []) (vars ++ (cons ++ movs)) nothing_yet g j 0 heading
        (reaches_more vars (cons ++ movs) g h j 8 variables (subst (λ x. Reaches h x (cons ++ movs) j) far tail)) in
        subst (λ hs. Reaches nothing_yet 0 (hs ++ (vars ++ (cons ++ movs))) (begun_tally b)) (sym (headed n some))
        (subst (Reaches nothing_yet 0 (heading_record n ∷ (vars ++ (cons ++ movs))))
        (same_tally _ _ _ _ _ _ _ _ _ _ refl refl (zero-add count) (zero-add (length b.moves)) (sym (reached_is b some))) all)
      where
        there : 1 ≤ length b.constraints + length b.moves → Due b.n b.variables
        there l = let a = k.in_turn l in (a.headed, a.all)

    by : (n : ℕ) → b.n ≡ n → Reaches nothing_yet 0 (records_begun b) (begun_tally b)
    by zero e = subst (λ c. Reaches nothing_yet 0 (records_begun c) (begun_tally c)) (sym (nothing_there b k e)) refl
    by (suc m) e = after_heading (omega arith)
