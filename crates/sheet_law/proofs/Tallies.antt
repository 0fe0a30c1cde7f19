-- The tally of a beginning of a sheet, and the place of what follows it.
use Rattle.std.proofs.Common.{◌≡◌, ℕ, zero, suc, ◌+◌, ◌<◌, ◌≤◌, true, not, eqb, ltb, List, [], ◌∷◌, ◌++◌, length, refl, ap, ◌∙◌, arith}
use Rattle.std.specs.List.{flat_map}
use Rattle.std.proofs.lemmas.Grind.{flat_map-append}
use Rattle.std.proofs.lemmas.List.{nil_from_length, length-append, append-nil}
use Rattle.std.proofs.lemmas.Bool.{ltb-true, ltb-false, eqb-true, and_parts, and_from, not-true, lt-ltb, le-ltb, eq-eqb, not_from_false}
use Rattle.sheet_format.specs.declared.found.Variable.{Variable}
use Rattle.sheet_format.specs.Value.{Constraint, Move}
use Rattle.sheet_format.specs.Encoding.{Raw, framed, heading_record}
use Rattle.sheet_format.specs.Beginnings.{Begun, heading_begun, AllThere, Keeps, begun_of, nothing_begun, unmoved, begun_tally}
use Rattle.sheet_format.specs.Rules.{ConstraintDue}
use Rattle.sheet_format.specs.Verdict.{Tally, complete, constraints_due}
use Rattle.sheet_law.proofs.Framing.{framed-length}

-- the place after a record
abbrev pub past : ℕ → Raw → ℕ
past place r = place + (4 + length r.body)

pub same_tally : (n m : ℕ) (vs ws : List Variable) (c d p q r t : ℕ) → n ≡ m → vs ≡ ws → c ≡ d → p ≡ q → r ≡ t
    → ◌≡◌ {A = Tally} (record { n = n; variables = vs; constraints = c; moves = p; reached = r }) (record { n = m; variables = ws; constraints = d; moves = q; reached = t })
same_tally n m vs ws c d p q r t a b e f g = cc

pub same_begun : (n m : ℕ) (vs ws : List Variable) (cs ds : List Constraint) (ms ns : List Move) → n ≡ m → vs ≡ ws → cs ≡ ds → ms ≡ ns
    → ◌≡◌ {A = Begun} (record { n = n; variables = vs; constraints = cs; moves = ms }) (record { n = m; variables = ws; constraints = ds; moves = ns })
same_begun n m vs ws cs ds ms ns a b c d = cc

-- one record more, and the place after it
pub bytes_more : (rs : List Raw) (r : Raw) → flat_map framed (rs ++ (r ∷ [])) ≡ flat_map framed rs ++ framed r
bytes_more rs r = flat_map-append framed rs (r ∷ []) ∙ ap (λ ys. flat_map framed rs ++ ys) (append-nil (framed r))

pub place_more : (rs : List Raw) (r : Raw) → length (flat_map framed (rs ++ (r ∷ []))) ≡ past (length (flat_map framed rs)) r
place_more rs r =
    let a = length-append (flat_map framed rs) (flat_map framed (r ∷ [])) in
    let b = framed-length r [] in
    ap length (flat_map-append framed rs (r ∷ [])) ∙ omega arith

pub headed : (n : ℕ) → 1 ≤ n → heading_begun n ≡ heading_record n ∷ []
headed zero h = absurd (omega arith)
headed (suc m) h = refl

-- what is not due is not there
none_due : (b : Begun) → Keeps b → (AllThere b → ⊥) → length b.constraints + length b.moves ≡ 0
none_due b k not_all = by (length b.constraints + length b.moves) refl
  where
    by : (m : ℕ) → length b.constraints + length b.moves ≡ m → length b.constraints + length b.moves ≡ 0
    by zero e = e
    by (suc m) e = absurd (not_all (k.in_turn (omega arith)))

-- before the heading there is nothing, and before the last variable no constraint and no move
pub nothing_there : (b : Begun) → Keeps b → b.n ≡ 0 → b ≡ nothing_begun
nothing_there b k e =
    let few = k.few_variables in
    let none = none_due b k (λ a. let h = a.headed in omega arith) in
    same_begun _ _ _ _ _ _ _ _ e (nil_from_length b.variables (omega arith)) (nil_from_length b.constraints (omega arith)) (nil_from_length b.moves (omega arith))

pub variables_only : (b : Begun) → Keeps b → length b.variables < b.n → b ≡ begun_of b.n b.variables []
variables_only b k l =
    let none = none_due b k (λ a. let h = a.all in omega arith) in
    same_begun _ _ _ _ _ _ _ _ refl refl (nil_from_length b.constraints (omega arith)) (nil_from_length b.moves (omega arith))

pub no_moves : (b : Begun) → b.moves ≡ [] → b ≡ unmoved b
no_moves b e = same_begun _ _ _ _ _ _ _ _ refl refl refl e

-- the tests of a tally, and what they say of its beginning
pub complete_is : (b : Begun) → Keeps b → complete (begun_tally b) ≡ true → AllThere b
complete_is b k e =
    let p = and_parts (ltb 0 b.n) (not (ltb (length b.variables) b.n)) e in
    let few = k.few_variables in
    let most : b.n ≤ length b.variables = ltb-false _ _ (not-true _ p.1) in
    record { headed = ltb-true _ _ p.0; all = omega arith }

pub is_complete : (b : Begun) → AllThere b → complete (begun_tally b) ≡ true
is_complete b a =
    let all = a.all in
    and_from (ltb 0 b.n) (not (ltb (length b.variables) b.n)) (lt-ltb 0 b.n a.headed) (not_from_false (ltb (length b.variables) b.n) (le-ltb (length b.variables) b.n (omega arith)))

pub due_is : (b : Begun) → Keeps b → constraints_due (begun_tally b) ≡ true → ConstraintDue b
due_is b k e =
    let p = and_parts (complete (begun_tally b)) (eqb (length b.moves) 0) e in
    record { variables_there = complete_is b k p.0; no_move = nil_from_length b.moves (eqb-true (length b.moves) 0 p.1) }

pub is_due : (b : Begun) → ConstraintDue b → constraints_due (begun_tally b) ≡ true
is_due b d = and_from (complete (begun_tally b)) (eqb (length b.moves) 0) (is_complete b d.variables_there) (eq-eqb (length b.moves) 0 (ap length d.no_move))
