-- A record with which the walk goes on makes a longer beginning of a sheet.
use Rattle.std.proofs.Common.{◌≡◌, ℕ, ◌*◌, ◌/◌, ◌<◌, true, false, cond, not, eqb, ltb, List, [], ◌∷◌, ◌++◌, map, length, get_or, Some, sym, refl, ap, ◌∙◌, subst, arith}
use Rattle.std.specs.List.{flat_map}
use Rattle.std.specs.Option.{option_to_list}
use Rattle.std.proofs.lemmas.List.{append_assoc, append-nil, length-append, map-append}
use Rattle.std.proofs.ByRecursion.{All-push}
use Rattle.std.proofs.lemmas.Bool.{ltb-true, eqb-true, and_parts, not-true}
use Rattle.sheet_format.specs.declared.found.Variable.{Variable}
use Rattle.sheet_format.specs.Numbers.{two, eight, number2}
use Rattle.sheet_format.specs.Value.{Constraint, sum, table, Move, add, retract, size_at, ValidVariable, ValidEnds, ValidConstraint, ValidMove}
use Rattle.sheet_format.specs.Encoding.{Raw, framed, heading_record, variable_record, constraint_record, move_record}
use Rattle.sheet_format.specs.Decoding.{sum_in, rows_in, as_variable, as_constraint, as_move}
use Rattle.sheet_format.specs.Beginnings.{Begun, heading_begun, records_begun, bytes_begun, AllThere, Keeps, begun_of, nothing_begun, unmoved, begun_tally}
use Rattle.sheet_format.specs.Rules.{ConstraintDue}
use Rattle.sheet_format.specs.Reading.{Shown, shows_heading, shows_variable, shows_sum, shows_table, shows_short_table, shows_add, shows_retract, shows_end}
use Rattle.sheet_format.specs.Verdict.{Tally, between, used, ends_good, variable_of, with_constraint, with_move}
use Rattle.sheet_law.proofs.NumberLaws.{Bytes}
use Rattle.sheet_law.proofs.Held.{HeadingHeld, VariableHeld, GoesHeld}
use Rattle.sheet_law.proofs.Shows.{KindIs}
use Rattle.sheet_law.proofs.Rows.{RowsBack, rows_back}
use Rattle.sheet_law.proofs.Items.{same_raw, between_is, two_numbers, one_number, ends_valid, sum_again, sum_valid}
use Rattle.sheet_law.proofs.Houses.{differ_push}
use Rattle.sheet_law.proofs.Tallies.{past, same_tally, same_begun, place_more, headed, nothing_there, variables_only, no_moves, complete_is, due_is}

-- a beginning with what one record more says
abbrev pub begun_with_raw : Begun → Raw → Begun
begun_with_raw b r =
    record {
      n = cond (eqb r.kind 1) (number2 r.body 2) b.n;
      variables = b.variables ++ option_to_list (as_variable r);
      constraints = b.constraints ++ option_to_list (as_constraint r);
      moves = b.moves ++ option_to_list (as_move r);
    }

-- the beginning with one record more, of which the next tally is
pub record Extends (b : Begun) (r : Raw) (h : Tally) : Type 0 where
  pub next : Begun
  pub keeps : Keeps next
  pub more : records_begun next ≡ records_begun b ++ (r ∷ [])
  pub tallied : h ≡ begun_tally next
  pub move_of : next ≡ begun_with_raw b r

abbrev here : Begun → ℕ
here b = length (bytes_begun b)

-- the place that a beginning without moves has reached, if it has one record more than another
reached_more : (b : Begun) (n : ℕ) (vs : List Variable) (cs : List Constraint) (r : Raw) → records_begun (begun_of n vs cs) ≡ records_begun b ++ (r ∷ []) → past (here b) r ≡ here (begun_of n vs cs)
reached_more b n vs cs r e = sym (ap (λ rs. length (flat_map framed rs)) e ∙ place_more (records_begun b) r)

-- a heading
heading_extends : (r : Raw) (body : List ℕ) (h : Tally) → Bytes r.body → KindIs r.kind r.body (shows_heading body) → HeadingHeld (begun_tally nothing_begun) body (past (here nothing_begun) r) h → Extends nothing_begun r h
heading_extends r body h b kind q =
    let n : ℕ = number2 body 2 in
    let at : r.body ≡ body = kind.1 in
    let four : length body ≡ 4 = eqb-true (length body) 4 q.long in
    let good = and_parts (eqb (number2 body 0) 1) (between 1 32 (number2 body 2)) q.good in
    let size = between_is 1 32 (number2 body 2) good.1 in
    let raw : r ≡ heading_record n =
    same_raw r 1 (two 1 ++ two n) kind.0 (at ∙ two_numbers body (subst Bytes at b) four ∙ ap (λ m. two m ++ two n) (eqb-true (number2 body 0) 1 good.0)) in
    let more : records_begun (begun_of n [] []) ≡ r ∷ [] = append-nil (heading_begun n) ∙ headed n size.0 ∙ ap (λ x. x ∷ []) (sym raw) in
    record {
      next = begun_of n [] [];
      keeps =
          record {
            n_low = size.1;
            few_variables = omega arith;
            variables_valid = tt;
            houses_differ = λ i j l. absurd (omega arith);
            in_turn = λ l. absurd (omega arith);
            few_constraints = omega arith;
            constraints_valid = tt;
            moves_valid = tt;
          };
      more = more;
      tallied = q.result ∙ same_tally _ _ _ _ _ _ _ _ _ _ refl refl refl refl (reached_more nothing_begun n [] [] r more);
      move_of = ap (begun_with_raw nothing_begun) (sym (same_raw r 1 body kind.0 kind.1));
    }

-- a variable, where no constraint and no move has come
variable_extends : (n : ℕ) (vs : List Variable) → Keeps (begun_of n vs []) → (r : Raw) (body : List ℕ) (h : Tally) → Bytes r.body → KindIs r.kind r.body (shows_variable body)
    → VariableHeld (begun_tally (begun_of n vs [])) body (past (here (begun_of n vs [])) r) h → Extends (begun_of n vs []) r h
variable_extends n vs k r body h b kind q =
    let v : Variable = variable_of body in
    let at : r.body ≡ body = kind.1 in
    let four : length body ≡ 4 = eqb-true (length body) 4 q.long in
    let size = between_is 1 64 (number2 body 0) q.size_good in
    let house = and_parts (ltb (number2 body 2) n) (not (used vs (number2 body 2))) q.house_fits in
    let one : ValidVariable n v = record { some_values = size.0; few_values = size.1; house_low = ltb-true _ _ house.0 } in
    let new : used vs v.house ≡ false = not-true _ house.1 in
    let raw : r ≡ variable_record v = same_raw r 2 (two v.size ++ two v.house) kind.0 (at ∙ two_numbers body (subst Bytes at b) four) in
    let more : records_begun (begun_of n (vs ++ (v ∷ [])) []) ≡ records_begun (begun_of n vs []) ++ (r ∷ []) =
    ap (λ xs. heading_begun n ++ xs) (append-nil (map variable_record (vs ++ (v ∷ []))) ∙ map-append variable_record vs (v ∷ []) ∙ ap (λ x. map variable_record vs ++ (x ∷ [])) (sym raw))
    ∙ sym (append_assoc (heading_begun n) (map variable_record vs) (r ∷ []))
    ∙ ap (λ xs. (heading_begun n ++ xs) ++ (r ∷ [])) (sym (append-nil (map variable_record vs))) in
    record {
      next = begun_of n (vs ++ (v ∷ [])) [];
      keeps =
          record {
            n_low = k.n_low;
            few_variables = (let m = length-append vs (v ∷ []) in let l : length vs < n = ltb-true _ _ q.due in omega arith);
            variables_valid = All-push (ValidVariable n) vs v k.variables_valid one;
            houses_differ = differ_push vs v k.houses_differ new;
            in_turn = λ l. absurd (omega arith);
            few_constraints = omega arith;
            constraints_valid = tt;
            moves_valid = tt;
          };
      more = more;
      tallied = q.result ∙ same_tally _ _ _ _ _ _ _ _ _ _ refl refl refl refl (reached_more (begun_of n vs []) n (vs ++ (v ∷ [])) [] r more);
      move_of = ap (begun_with_raw (begun_of n vs [])) (sym (same_raw r 2 body kind.0 kind.1));
    }

-- what the record of a constraint and that of a move say
constraint_with_raw : (n : ℕ) (vs : List Variable) (cs : List Constraint) (r : Raw) (c : Constraint) → r ≡ constraint_record c → as_constraint r ≡ Some c
    → begun_of n vs (cs ++ (c ∷ [])) ≡ begun_with_raw (begun_of n vs cs) r
constraint_with_raw n vs cs r c raw back = subst (λ x. as_constraint x ≡ Some c → begun_of n vs (cs ++ (c ∷ [])) ≡ begun_with_raw (begun_of n vs cs) x) (sym raw) (by c) back
  where
    by : (d : Constraint) → as_constraint (constraint_record d) ≡ Some c → begun_of n vs (cs ++ (c ∷ [])) ≡ begun_with_raw (begun_of n vs cs) (constraint_record d)
    by (sum a b m k lo hi) e = same_begun _ _ _ _ _ _ _ _ refl (sym (append-nil vs)) (ap (λ o. cs ++ option_to_list o) (sym e)) refl
    by (table a b rows) e = same_begun _ _ _ _ _ _ _ _ refl (sym (append-nil vs)) (ap (λ o. cs ++ option_to_list o) (sym e)) refl

move_with_raw : (b : Begun) (r : Raw) (m : Move) → r ≡ move_record m → as_move r ≡ Some m
    → record { n = b.n; variables = b.variables; constraints = b.constraints; moves = b.moves ++ (m ∷ []) } ≡ begun_with_raw b r
move_with_raw b r m raw back =
    subst (λ x. as_move x ≡ Some m → record { n = b.n; variables = b.variables; constraints = b.constraints; moves = b.moves ++ (m ∷ []) } ≡ begun_with_raw b x) (sym raw) (by m) back
  where
    by : (d : Move) → as_move (move_record d) ≡ Some m → record { n = b.n; variables = b.variables; constraints = b.constraints; moves = b.moves ++ (m ∷ []) } ≡ begun_with_raw b (move_record d)
    by (add p) e = same_begun _ _ _ _ _ _ _ _ refl (sym (append-nil b.variables)) (sym (append-nil b.constraints)) (ap (λ o. b.moves ++ option_to_list o) (sym e))
    by (retract p) e = same_begun _ _ _ _ _ _ _ _ refl (sym (append-nil b.variables)) (sym (append-nil b.constraints)) (ap (λ o. b.moves ++ option_to_list o) (sym e))

-- a constraint, where no move has come
constraint_extends : (n : ℕ) (vs : List Variable) (cs : List Constraint) → Keeps (begun_of n vs cs) → (r : Raw) (c : Constraint) (h : Tally) → r ≡ constraint_record c → as_constraint r ≡ Some c
    → AllThere (begun_of n vs cs) → length cs < 96 → ValidConstraint vs c → h ≡ with_constraint (begun_tally (begun_of n vs cs)) (past (here (begun_of n vs cs)) r) → Extends (begun_of n vs cs) r h
constraint_extends n vs cs k r c h raw back all few valid e =
    let hs : List Raw = heading_begun n in
    let vars : List Raw = map variable_record vs in
    let many = length-append cs (c ∷ []) in
    let more : records_begun (begun_of n vs (cs ++ (c ∷ []))) ≡ records_begun (begun_of n vs cs) ++ (r ∷ []) =
    ap (λ xs. hs ++ (vars ++ xs)) (append-nil (map constraint_record (cs ++ (c ∷ []))) ∙ map-append constraint_record cs (c ∷ []) ∙ ap (λ x. map constraint_record cs ++ (x ∷ [])) (sym raw))
    ∙ ap (λ xs. hs ++ xs) (sym (append_assoc vars (map constraint_record cs) (r ∷ [])))
    ∙ sym (append_assoc hs (vars ++ map constraint_record cs) (r ∷ []))
    ∙ ap (λ xs. (hs ++ (vars ++ xs)) ++ (r ∷ [])) (sym (append-nil (map constraint_record cs))) in
    record {
      next = begun_of n vs (cs ++ (c ∷ []));
      keeps =
          record {
            n_low = k.n_low;
            few_variables = k.few_variables;
            variables_valid = k.variables_valid;
            houses_differ = k.houses_differ;
            in_turn = λ l. record { headed = all.headed; all = all.all };
            few_constraints = omega arith;
            constraints_valid = All-push (ValidConstraint vs) cs c k.constraints_valid valid;
            moves_valid = tt;
          };
      more = more;
      tallied = e ∙ same_tally _ _ _ _ _ _ _ _ _ _ refl refl (sym many) refl (reached_more (begun_of n vs cs) n vs (cs ++ (c ∷ [])) r more);
      move_of = constraint_with_raw n vs cs r c raw back;
    }

-- a move
move_extends : (b : Begun) → Keeps b → (r : Raw) (m : Move) (h : Tally) → r ≡ move_record m → as_move r ≡ Some m → AllThere b → ValidMove m → h ≡ with_move (begun_tally b) → Extends b r h
move_extends b k r m h raw back all valid e =
    let hs : List Raw = heading_begun b.n in
    let vars : List Raw = map variable_record b.variables in
    let cons : List Raw = map constraint_record b.constraints in
    let many = length-append b.moves (m ∷ []) in
    record {
      next = record { n = b.n; variables = b.variables; constraints = b.constraints; moves = b.moves ++ (m ∷ []) };
      keeps =
          record {
            n_low = k.n_low;
            few_variables = k.few_variables;
            variables_valid = k.variables_valid;
            houses_differ = k.houses_differ;
            in_turn = λ l. record { headed = all.headed; all = all.all };
            few_constraints = k.few_constraints;
            constraints_valid = k.constraints_valid;
            moves_valid = All-push ValidMove b.moves m k.moves_valid valid;
          };
      more =
          ap (λ xs. hs ++ (vars ++ (cons ++ xs))) (map-append move_record b.moves (m ∷ []) ∙ ap (λ x. map move_record b.moves ++ (x ∷ [])) (sym raw))
          ∙ ap (λ xs. hs ++ (vars ++ xs)) (sym (append_assoc cons (map move_record b.moves) (r ∷ [])))
          ∙ ap (λ xs. hs ++ xs) (sym (append_assoc vars (cons ++ map move_record b.moves) (r ∷ [])))
          ∙ sym (append_assoc hs (vars ++ (cons ++ map move_record b.moves)) (r ∷ []));
      tallied = e ∙ same_tally _ _ _ _ _ _ _ _ _ _ refl refl refl (sym many) refl;
      move_of = move_with_raw b r m raw back;
    }

-- a move's body: any index of two bytes
move_is : (r : Raw) (body : List ℕ) → Bytes r.body → r.body ≡ body → eqb (length body) 2 ≡ true → (r.body ≡ two (number2 r.body 0)) × (number2 r.body 0 < 65536)
move_is r body b e l = one_number r.body b (ap length e ∙ eqb-true (length body) 2 l)

eighths : (n count : ℕ) → n ≡ 8 * count → n / 8 ≡ count
eighths n count e = omega arith

module _ (b : Begun) (k : Keeps b) (r : Raw) (bytes : Bytes r.body) (h : Tally) where
  at_start : (body : List ℕ) → KindIs r.kind r.body (shows_heading body) → HeadingHeld (begun_tally b) body (past (here b) r) h → Extends b r h
  at_start body kind q =
      let same : b ≡ nothing_begun = nothing_there b k (eqb-true b.n 0 q.due) in
      subst (λ c. HeadingHeld (begun_tally c) body (past (here c) r) h → Extends c r h) (sym same) (heading_extends r body h bytes kind) q

  at_variables : (body : List ℕ) → KindIs r.kind r.body (shows_variable body) → VariableHeld (begun_tally b) body (past (here b) r) h → Extends b r h
  at_variables body kind q =
      let same : b ≡ begun_of b.n b.variables [] = variables_only b k (ltb-true _ _ q.due) in
      subst (λ c. VariableHeld (begun_tally c) body (past (here c) r) h → Extends c r h) (sym same)
      (variable_extends b.n b.variables (subst Keeps same k) r body h bytes kind) q

  at_constraints : (c : Constraint) → r ≡ constraint_record c → as_constraint r ≡ Some c → ConstraintDue b → length b.constraints < 96 → ValidConstraint b.variables c → h ≡ with_constraint (begun_tally b) (past (here b) r) → Extends b r h
  at_constraints c raw back due few valid e =
      let same : b ≡ unmoved b = no_moves b due.no_move in
      subst (λ d. h ≡ with_constraint (begun_tally d) (past (here d) r) → Extends d r h) (sym same)
      (constraint_extends b.n b.variables b.constraints (subst Keeps same k) r c h raw back (subst AllThere same due.variables_there) few valid) e

  pub extends : (s : Shown) → KindIs r.kind r.body s → GoesHeld (begun_tally b) s (past (here b) r) h → Extends b r h
  extends (shows_heading body) kind q = at_start body kind q
  extends (shows_variable body) kind q = at_variables body kind q
  extends (shows_sum body) kind q =
      let at : r.body ≡ body = kind.1 in
      let again = sum_again body (subst Bytes at bytes) (eqb-true (length body) 14 q.1.long) in
      let due : ConstraintDue b = due_is b k q.0.due in
      at_constraints (sum_in body) (same_raw r 3 (constraint_record (sum_in body)).body kind.0 (at ∙ again.0)) (ap as_constraint (same_raw r 3 body kind.0 at)) due (ltb-true _ _ q.0.few)
      (sum_valid (length b.variables) body (subst (λ m. ends_good m (get_or body 0 0) (get_or body 1 0) ≡ true) (sym due.variables_there.all) q.1.two_ends) q.1.good again.1 again.2)
      q.1.result
  extends (shows_table x y rows at) kind q =
      let at : r.body ≡ x ∷ (y ∷ rows) = kind.1 in
      let count : ℕ = size_at b.variables x in
      let size : ℕ = size_at b.variables y in
      let back : RowsBack count size rows = rows_back count size rows (subst Bytes at bytes).1.1 (eqb-true (length rows) (8 * count) q.1.long) q.1.good in
      let due : ConstraintDue b = due_is b k q.0.due in
      at_constraints (table x y (rows_in count rows))
      (same_raw r 4 (x ∷ (y ∷ flat_map eight (rows_in count rows))) kind.0 (at ∙ ap (λ zs. x ∷ (y ∷ zs)) back.same))
      (ap as_constraint (same_raw r 4 (x ∷ (y ∷ rows)) kind.0 at) ∙ ap (λ m. Some (table x y (rows_in m rows))) (eighths (length rows) count (eqb-true (length rows) (8 * count) q.1.long)))
      due (ltb-true _ _ q.0.few)
      (record { ends = subst (λ m. ValidEnds m x y) (sym due.variables_there.all) (ends_valid b.n x y q.1.two_ends); a_row_each = back.many; low_bits = back.low })
      q.1.result
  extends (shows_short_table body) kind q = absurd q
  extends (shows_add body) kind q =
      let m = move_is r body bytes kind.1 q.long in
      move_extends b k r (add (number2 r.body 0)) h (same_raw r 5 _ kind.0 m.0) (ap (λ k. as_move (record { kind = k; body = r.body })) kind.0) (complete_is b k q.due) m.1 q.result
  extends (shows_retract body) kind q =
      let m = move_is r body bytes kind.1 q.long in
      move_extends b k r (retract (number2 r.body 0)) h (same_raw r 6 _ kind.0 m.0) (ap (λ k. as_move (record { kind = k; body = r.body })) kind.0) (complete_is b k q.due) m.1 q.result
  extends (shows_end body) kind q = absurd q
