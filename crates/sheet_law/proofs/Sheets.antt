-- A beginning of a sheet with the end record after it is a sheet.
use Rattle.std.proofs.Common.{◌≡◌, ◌+◌, ◌*◌, ◌≤◌, List, [], ◌∷◌, ◌++◌, map, length, sym, refl, ap, ◌∙◌, subst, arith}
use Rattle.std.specs.List.{flat_map, AllByRecursion}
use Rattle.std.proofs.lemmas.List.{append_assoc}
use Rattle.sheet_format.specs.Value.{Sheet, ValidVariable}
use Rattle.sheet_format.specs.Encoding.{Raw, framed, heading_record, variable_record, constraint_record, move_record, end_record, records_of, encode, Valid}
use Rattle.sheet_format.specs.Beginnings.{Begun, heading_begun, records_begun, bytes_begun, AllThere, Keeps, begun_tally, begun_sheet}
use Rattle.sheet_format.specs.Verdict.{Tally, summary}
use Rattle.sheet_format.specs.Law.{summary_of}
use Rattle.sheet_law.proofs.Tallies.{bytes_more, headed}
use Rattle.sheet_law.proofs.Forward.{reached_is}

-- the beginning that a sheet is
abbrev pub sheet_begun : Sheet → Begun
sheet_begun s = record { n = length s.variables; variables = s.variables; constraints = s.constraints; moves = s.moves }

pub ended_records : (b : Begun) → AllThere b → records_begun b ++ (end_record ∷ []) ≡ records_of (begun_sheet b)
ended_records b all =
    let vars : List Raw = map variable_record b.variables in
    let cons : List Raw = map constraint_record b.constraints in
    let movs : List Raw = map move_record b.moves in
    append_assoc (heading_begun b.n) (vars ++ (cons ++ movs)) (end_record ∷ [])
    ∙ ap (λ xs. heading_begun b.n ++ xs) (append_assoc vars (cons ++ movs) (end_record ∷ []) ∙ ap (λ xs. vars ++ xs) (append_assoc cons movs (end_record ∷ [])))
    ∙ ap (λ hs. hs ++ (vars ++ (cons ++ (movs ++ (end_record ∷ []))))) (headed b.n all.headed)
    ∙ ap (λ n. heading_record n ∷ (vars ++ (cons ++ (movs ++ (end_record ∷ []))))) (sym all.all)

pub ended_bytes : (b : Begun) → AllThere b → bytes_begun b ++ framed end_record ≡ encode (begun_sheet b)
ended_bytes b all = sym (bytes_more (records_begun b) end_record) ∙ ap (flat_map framed) (ended_records b all)

pub begun_valid : (b : Begun) → Keeps b → AllThere b → length (encode (begun_sheet b)) ≤ 65535 → Valid (begun_sheet b)
begun_valid b k all short =
    record {
      some_variables = subst (λ m. 1 ≤ m) (sym all.all) all.headed;
      few_variables = subst (λ m. m ≤ 32) (sym all.all) k.n_low;
      variables_valid = subst (λ m. AllByRecursion (ValidVariable m) b.variables) (sym all.all) k.variables_valid;
      houses_differ = k.houses_differ;
      few_constraints = k.few_constraints;
      constraints_valid = k.constraints_valid;
      moves_valid = k.moves_valid;
      short = short;
    }

pub all_begun : (s : Sheet) → Valid s → AllThere (sheet_begun s)
all_begun s v = record { headed = v.some_variables; all = refl }

pub sheet_keeps : (s : Sheet) → Valid s → Keeps (sheet_begun s)
sheet_keeps s v =
    record {
      n_low = v.few_variables;
      few_variables = omega arith;
      variables_valid = v.variables_valid;
      houses_differ = v.houses_differ;
      in_turn = λ l. all_begun s v;
      few_constraints = v.few_constraints;
      constraints_valid = v.constraints_valid;
      moves_valid = v.moves_valid;
    }

pub begun_summary : (b : Begun) → AllThere b → summary (begun_tally b) ≡ summary_of (begun_sheet b)
begun_summary b all = summed (begun_tally b) (begun_sheet b) (sym all.all) refl refl (reached_is b all.headed)
  where
    summed : (g : Tally) (s : Sheet) → g.n ≡ length s.variables → g.constraints ≡ length s.constraints → g.moves ≡ length s.moves
        → g.reached ≡ 8 + 8 * length s.variables + length (flat_map framed (map constraint_record s.constraints)) → summary g ≡ summary_of s
    summed g s en ec em er = cc
