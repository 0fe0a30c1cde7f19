-- The law of sheets.
use Rattle.std.proofs.Common.{◌≡◌, ℕ, zero, suc, ◌+◌, ◌-◌, ◌*◌, ◌/◌, ◌<◌, ◌≤◌, Bool, true, false, cond, eqb, ltb, ◌⊎◌, List, [], ◌∷◌, ◌++◌, map, length, get_or, take, drop, Some, None, Ok, Err, Option, sym, refl, ap, ◌∙◌, subst, inl, inr, zero-add, arith}
use Rattle.std.specs.Option.{option_to_list}
use Rattle.std.specs.List.{flat_map, AllByRecursion}
use Rattle.std.proofs.lemmas.List.{nil_from_length, append_assoc, append-nil, length-append}
use Rattle.std.proofs.ByRecursion.{All-from_get_or, All-append, All-map, All-weaker}
use Rattle.std.proofs.lemmas.Bool.{ltb-true, ltb-false, le-ltb, cond-false, ne_eqb}
use Rattle.sheet_format.specs.declared.found.Variable.{Variable}
use Rattle.sheet_format.specs.declared.found.Summary.{Summary}
use Rattle.sheet_format.specs.declared.faults.Cause.TheVariants.{TooLong, OutOfTurn, Trailing}
use Rattle.sheet_format.specs.declared.faults.SheetFault.{SheetFault}
use Rattle.sheet_format.specs.Numbers.{eight, number2}
use Rattle.sheet_format.specs.Faults.{fault_number, fault_byte, fault_records}
use Rattle.sheet_format.specs.Value.{Constraint, sum, table, Move, add, retract, Sheet, size_at, ValidVariable, ValidConstraint, ValidMove}
use Rattle.sheet_format.specs.Encoding.{Raw, framed, heading_record, variable_record, constraint_record, move_record, end_record, records_of, encode, Valid}
use Rattle.sheet_format.specs.Decoding.{first_record, split, rows_in, as_variable, as_constraint, as_move, gathered, sheet_of, decode}
use Rattle.sheet_format.specs.Beginnings.{Begun, heading_begun, records_begun, bytes_begun, AllThere, Keeps, nothing_begun, begun_tally, begun_sheet}
use Rattle.sheet_format.specs.Reading.{shows_end}
use Rattle.sheet_format.specs.Verdict.{Tally, nothing_yet, step, ends, unless, summary, Verdict, format_fault, after_step, walked, verdict}
use Rattle.sheet_format.specs.Law.{summary_of, Encodes, Says, Refused, too_long, trails, goes_wrong, Law}
use Rattle.sheet_law.proofs.NumberLaws.{two_back, Bytes}
use Rattle.sheet_law.proofs.Framing.{Short, framed-length, framed_first}
use Rattle.sheet_law.proofs.Tallies.{past, is_complete}
use Rattle.sheet_law.proofs.Walks.{first_step, walked_on, no_fault, later}
use Rattle.sheet_law.proofs.Rows.{rows_there}
use Rattle.sheet_law.proofs.Items.{sum_there}
use Rattle.sheet_law.proofs.Forward.{size_low, variable_again, begun_reaches}
use Rattle.sheet_law.proofs.Sheets.{sheet_begun, ended_records, ended_bytes, begun_valid, all_begun, sheet_keeps, begun_summary}
use Rattle.sheet_law.proofs.Alone.{says, wrong_found}
use Rattle.sheet_law.proofs.Telling.{Whole, Over, Off, LawOf, law_of}

-- framed records, split again
pub split_back : (rs : List Raw) (most : ℕ) → length rs ≤ most → AllByRecursion Short rs → split most (flat_map framed rs) ≡ rs
unfolding split
split_back [] zero l short = refl
split_back [] (suc most) l short = refl
split_back (r ∷ rs) zero l short = absurd (omega arith)
split_back (r ∷ rs) (suc most) l short =
    let xs : List ℕ = framed r ++ flat_map framed rs in
    let f = framed_first r (flat_map framed rs) short.0 in
    let first : first_record xs ≡ r =
    ap (λ k. record { kind = k; body = drop 4 (take (number2 xs 0) xs) }) f.1
    ∙ ap (λ m. record { kind = r.kind; body = drop 4 (take m xs) }) f.0
    ∙ ap (λ b. record { kind = r.kind; body = b }) f.2 in
    let rest : drop (number2 xs 0) xs ≡ flat_map framed rs = ap (λ m. drop m xs) f.0 ∙ f.3 in
    ap (λ q. q ∷ split most (drop (number2 xs 0) xs)) first
    ∙ ap (λ ys. r ∷ split most ys) rest
    ∙ ap (λ qs. r ∷ qs) (split_back rs most (omega arith) short.1)

-- at least four bytes a record
pub records_few : (rs : List Raw) → 4 * length rs ≤ length (flat_map framed rs)
records_few [] = omega arith
records_few (r ∷ rs) = let l = framed-length r (flat_map framed rs) in let k = records_few rs in omega arith

-- records of known kinds, in bytes few enough, are short
short_all : (rs : List Raw) → AllByRecursion (λ r. r.kind < 65536) rs → length (flat_map framed rs) ≤ 65535 → AllByRecursion Short rs
short_all [] kinds l = tt
short_all (r ∷ rs) kinds l =
    let k = framed-length r (flat_map framed rs) in
    (record { kind_low = kinds.0; length_low = omega arith }, short_all rs kinds.1 (omega arith))

constraint_kind : (c : Constraint) → (constraint_record c).kind < 65536
constraint_kind (sum a b m k lo hi) = omega arith
constraint_kind (table a b rows) = omega arith

move_kind : (m : Move) → (move_record m).kind < 65536
move_kind (add p) = omega arith
move_kind (retract p) = omega arith

each : {X : Type 0} (P : X → Type 0) → ((x : X) → P x) → (xs : List X) → AllByRecursion P xs
each P f [] = tt
each P f (x ∷ xs) = (f x, each P f xs)

kinds_begun : (b : Begun) → AllByRecursion (λ r. r.kind < 65536) (records_begun b)
kinds_begun b =
    All-append (λ r. r.kind < 65536) (heading_begun b.n) _ (by b.n)
    (All-append (λ r. r.kind < 65536) (map variable_record b.variables) _ (All-map (λ r. r.kind < 65536) variable_record b.variables (each _ (λ v. omega arith) b.variables))
    (All-append (λ r. r.kind < 65536) (map constraint_record b.constraints) _ (All-map (λ r. r.kind < 65536) constraint_record b.constraints (each _ constraint_kind b.constraints))
    (All-map (λ r. r.kind < 65536) move_record b.moves (each _ move_kind b.moves))))
  where
    by : (n : ℕ) → AllByRecursion (λ r. r.kind < 65536) (heading_begun n)
    by zero = tt
    by (suc m) = (omega arith, tt)

kinds_low : (s : Sheet) → Valid s → AllByRecursion (λ r. r.kind < 65536) (records_of s)
kinds_low s v =
    subst (AllByRecursion (λ r. r.kind < 65536)) (ended_records (sheet_begun s) (all_begun s v))
    (All-append (λ r. r.kind < 65536) (records_begun (sheet_begun s)) _ (kinds_begun (sheet_begun s)) (omega arith, tt))

pub sheet_short : (s : Sheet) → Valid s → AllByRecursion Short (records_of s)
sheet_short s v = short_all (records_of s) (kinds_low s v) v.short

-- those of one sort out of records
gathered-append : {X : Type 0} (f : Raw → Option X) (xs ys : List Raw) → gathered f (xs ++ ys) ≡ gathered f xs ++ gathered f ys
gathered-append f [] ys = refl
gathered-append f (r ∷ rs) ys = ap (λ zs. option_to_list (f r) ++ zs) (gathered-append f rs ys) ∙ sym (append_assoc (option_to_list (f r)) (gathered f rs) (gathered f ys))

gathered_all : {X : Type 0} (f : Raw → Option X) (g : X → Raw) (xs : List X) → AllByRecursion (λ x. f (g x) ≡ Some x) xs → gathered f (map g xs) ≡ xs
gathered_all f g [] h = refl
gathered_all f g (x ∷ xs) h = ap (λ o. option_to_list o ++ gathered f (map g xs)) h.0 ∙ ap (λ zs. x ∷ zs) (gathered_all f g xs h.1)

gathered_none : {X Y : Type 0} (f : Raw → Option Y) (g : X → Raw) (xs : List X) → ((x : X) → f (g x) ≡ None) → gathered f (map g xs) ≡ []
gathered_none f g [] h = refl
gathered_none f g (x ∷ xs) h = ap (λ o. option_to_list o ++ gathered f (map g xs)) (h x) ∙ gathered_none f g xs h

variable_back : (n : ℕ) (v : Variable) → n ≤ 32 → ValidVariable n v → as_variable (variable_record v) ≡ Some v
variable_back n v small valid = ap Some (variable_again n v small valid)

pub constraint_back : (vs : List Variable) (c : Constraint) → AllByRecursion (ValidVariable (length vs)) vs → ValidConstraint vs c → as_constraint (constraint_record c) ≡ Some c
constraint_back vs (sum a b m k lo hi) valid v = ap Some (sum_there (length vs) a b m k lo hi v).0
constraint_back vs (table a b rows) valid v =
    let there = rows_there (size_at vs b) rows [] (size_low (length vs) vs b valid v.ends.b_low) v.low_bits in
    let long : length (flat_map eight rows) ≡ 8 * length rows = there.2 in
    let count : length (flat_map eight rows) / 8 ≡ length rows = omega arith in
    let same : rows_in (length rows) (flat_map eight rows) ≡ rows = subst (λ xs. rows_in (length rows) xs ≡ rows) (append-nil (flat_map eight rows)) there.1 in
    ap (λ x. Some (table a b (rows_in x (flat_map eight rows)))) count ∙ ap (λ x. Some (table a b x)) same

move_back : (m : Move) → ValidMove m → as_move (move_record m) ≡ Some m
move_back (add p) l = ap (λ x. Some (add x)) (two_back p [] l)
move_back (retract p) l = ap (λ x. Some (retract x)) (two_back p [] l)

no_variable_c : (c : Constraint) → as_variable (constraint_record c) ≡ None
no_variable_c (sum a b m k lo hi) = refl
no_variable_c (table a b rows) = refl

no_variable_m : (m : Move) → as_variable (move_record m) ≡ None
no_variable_m (add p) = refl
no_variable_m (retract p) = refl

no_constraint_m : (m : Move) → as_constraint (move_record m) ≡ None
no_constraint_m (add p) = refl
no_constraint_m (retract p) = refl

no_move_c : (c : Constraint) → as_move (constraint_record c) ≡ None
no_move_c (sum a b m k lo hi) = refl
no_move_c (table a b rows) = refl

-- those of one sort out of a sheet's records, by what each part gives
parts : {X : Type 0} (f : Raw → Option X) (s : Sheet) (vs cs ms : List X) → gathered f (heading_record (length s.variables) ∷ []) ≡ [] → gathered f (end_record ∷ []) ≡ []
    → gathered f (map variable_record s.variables) ≡ vs → gathered f (map constraint_record s.constraints) ≡ cs → gathered f (map move_record s.moves) ≡ ms
    → gathered f (records_of s) ≡ vs ++ (cs ++ (ms ++ []))
parts f s vs cs ms h e ev ec em =
    gathered-append f (heading_record (length s.variables) ∷ []) _
    ∙ ap (λ xs. xs ++ gathered f (map variable_record s.variables ++ (map constraint_record s.constraints ++ (map move_record s.moves ++ (end_record ∷ []))))) h
    ∙ gathered-append f (map variable_record s.variables) _
    ∙ ap (λ xs. xs ++ gathered f (map constraint_record s.constraints ++ (map move_record s.moves ++ (end_record ∷ [])))) ev
    ∙ ap (λ xs. vs ++ xs) (gathered-append f (map constraint_record s.constraints) _)
    ∙ ap (λ xs. vs ++ (xs ++ gathered f (map move_record s.moves ++ (end_record ∷ [])))) ec
    ∙ ap (λ xs. vs ++ (cs ++ xs)) (gathered-append f (map move_record s.moves) (end_record ∷ []))
    ∙ ap (λ xs. vs ++ (cs ++ (xs ++ gathered f (end_record ∷ [])))) em
    ∙ ap (λ xs. vs ++ (cs ++ (ms ++ xs))) e

pub sheet_back : (s : Sheet) → Valid s → sheet_of (records_of s) ≡ s
sheet_back s v =
    let ev = parts as_variable s s.variables [] [] refl refl
    (gathered_all as_variable variable_record s.variables (All-weaker (ValidVariable (length s.variables)) (λ x. as_variable (variable_record x) ≡ Some x) (λ x. variable_back (length s.variables) x v.few_variables) s.variables v.variables_valid))
    (gathered_none as_variable constraint_record s.constraints no_variable_c)
    (gathered_none as_variable move_record s.moves no_variable_m)
    ∙ append-nil s.variables in
    let ec = parts as_constraint s [] s.constraints [] refl refl
    (gathered_none as_constraint variable_record s.variables (λ x. refl))
    (gathered_all as_constraint constraint_record s.constraints (All-weaker (ValidConstraint s.variables) (λ x. as_constraint (constraint_record x) ≡ Some x) (λ x. constraint_back s.variables x v.variables_valid) s.constraints v.constraints_valid))
    (gathered_none as_constraint move_record s.moves no_constraint_m)
    ∙ append-nil s.constraints in
    let em = parts as_move s [] [] s.moves refl refl
    (gathered_none as_move variable_record s.variables (λ x. refl))
    (gathered_none as_move constraint_record s.constraints no_move_c)
    (gathered_all as_move move_record s.moves (All-weaker ValidMove (λ x. as_move (move_record x) ≡ Some x) move_back s.moves v.moves_valid))
    ∙ append-nil s.moves in
    ap (λ x. record { variables = x; constraints = gathered as_constraint (records_of s); moves = gathered as_move (records_of s) }) ev
    ∙ ap (λ x. record { variables = s.variables; constraints = x; moves = gathered as_move (records_of s) }) ec
    ∙ ap (λ x. record { variables = s.variables; constraints = s.constraints; moves = x }) em

-- what a valid sheet encodes decodes to it
pub decode-encode : (s : Sheet) → Valid s → decode (encode s) ≡ s
decode-encode s v =
    let few = records_few (records_of s) in
    ap sheet_of (split_back (records_of s) (length (encode s)) (omega arith) (sheet_short s v)) ∙ sheet_back s v

-- the records of a beginning are short, in bytes few enough
begun_short : (b : Begun) → length (bytes_begun b) ≤ 65535 → AllByRecursion Short (records_begun b)
begun_short b l = short_all (records_begun b) (kinds_begun b) l

-- the walk goes on after a beginning of the bytes
walk_after : (xs rest : List ℕ) (b : Begun) (most : ℕ) → Keeps b → length xs ≤ 65535 → length xs ≤ most → xs ≡ bytes_begun b ++ rest
    → walked most xs 0 0 nothing_yet ≡ walked (most - length (records_begun b)) rest (length (bytes_begun b)) (length (records_begun b)) (begun_tally b)
walk_after xs rest b most k short enough same =
    let few = records_few (records_begun b) in
    let long = length-append (bytes_begun b) rest in
    let all = ap length same in
    let fuel : most ≡ length (records_begun b) + (most - length (records_begun b)) = omega arith in
    ap (λ m. walked m xs 0 0 nothing_yet) fuel
    ∙ ap (λ ys. walked (length (records_begun b) + (most - length (records_begun b))) ys 0 0 nothing_yet) same
    ∙ walked_on (records_begun b) rest nothing_yet (begun_tally b) 0 0 (most - length (records_begun b)) (begun_reaches b k) (begun_short b (omega arith))
    ∙ ap (λ p. walked (most - length (records_begun b)) rest p (0 + length (records_begun b)) (begun_tally b)) (zero-add (length (bytes_begun b)))
    ∙ ap (λ n. walked (most - length (records_begun b)) rest (length (bytes_begun b)) n (begun_tally b)) (zero-add (length (records_begun b)))

-- accepted bytes encode a valid sheet, and one only
accepted_law : (xs : List ℕ) (z : Summary) → length xs ≤ 65535 → Whole xs z → Encodes xs z
accepted_law xs z short w =
    let b : Begun = w.ended.begun in
    let s : Sheet = begun_sheet b in
    let bytes : encode s ≡ xs = sym (w.ended.same ∙ ap (λ ys. bytes_begun b ++ ys) (append-nil (framed end_record)) ∙ ended_bytes b w.ended.all) in
    let v : Valid s = begun_valid b w.ended.keeps w.ended.all (subst (λ ys. length ys ≤ 65535) (sym bytes) short) in
    let back : decode xs ≡ s = ap decode (sym bytes) ∙ decode-encode s v in
    record {
      valid = subst Valid (sym back) v;
      same = ap encode back ∙ bytes;
      alone = λ u l f. sym (decode-encode u l) ∙ ap decode f;
      sums_up = w.sums_up ∙ begun_summary b w.ended.all ∙ ap summary_of (sym back);
    }

-- a whole sheet, and what follows it
walk_over : (xs more : List ℕ) (s : Sheet) → Valid s → length xs ≤ 65535 → xs ≡ encode s ++ more
    → walked (suc (length xs)) xs 0 0 nothing_yet ≡ cond (eqb (length more) 0) (Ok (summary (begun_tally (sheet_begun s)))) (format_fault Trailing (length (encode s)) (length (records_of s)))
walk_over xs more s v short same =
    let b : Begun = sheet_begun s in
    let g : Tally = begun_tally b in
    let count : ℕ = length (records_begun b) in
    let all : AllThere b = all_begun s v in
    let bytes : xs ≡ bytes_begun b ++ (framed end_record ++ more) =
    same ∙ ap (λ ys. ys ++ more) (sym (ended_bytes b all)) ∙ append_assoc (bytes_begun b) (framed end_record) more in
    let few = records_few (records_begun b) in
    let long = length-append (bytes_begun b) (framed end_record ++ more) in
    let size = ap length bytes in
    let left : suc (length xs) - length (records_begun b) ≡ suc (length xs - length (records_begun b)) = omega arith in
    let turn : step g (shows_end []) (past (length (bytes_begun b)) end_record) ≡ ends = ap (λ t. unless t OutOfTurn ends) (is_complete b all) in
    let place : past (length (bytes_begun b)) end_record ≡ length (encode s) = sym (length-append (bytes_begun b) (framed end_record)) ∙ ap length (ended_bytes b all) in
    let many : count + 1 ≡ length (records_of s) = sym (length-append (records_begun b) (end_record ∷ [])) ∙ ap length (ended_records b all) in
    walk_after xs (framed end_record ++ more) b (suc (length xs)) (sheet_keeps s v) short (omega arith) bytes
    ∙ ap (λ m. walked m (framed end_record ++ more) (length (bytes_begun b)) count g) left
    ∙ first_step end_record more g (length (bytes_begun b)) count (length xs - length (records_begun b)) (shows_end []) (record { kind_low = omega arith; length_low = omega arith }) refl
    ∙ ap (after_step (walked (length xs - length (records_begun b))) g (length (bytes_begun b)) count more (past (length (bytes_begun b)) end_record)) turn
    ∙ ap (λ p. cond (eqb (length more) 0) (Ok (summary g)) (format_fault Trailing p (count + 1))) place
    ∙ ap (λ n. cond (eqb (length more) 0) (Ok (summary g)) (format_fault Trailing (length (encode s)) n)) many

-- the walk accepts what a valid sheet encodes
encoded_walk : (xs : List ℕ) (s : Sheet) → Valid s → encode s ≡ xs → walked (suc (length xs)) xs 0 0 nothing_yet ≡ Ok (summary_of s)
encoded_walk xs s v same =
    walk_over xs [] s v (subst (λ ys. length ys ≤ 65535) same v.short) (sym same ∙ sym (append-nil (encode s)))
    ∙ ap Ok (begun_summary (sheet_begun s) (all_begun s v))

-- so the check does
pub encoded_accepted : (s : Sheet) → Valid s → verdict (encode s) ≡ Ok (summary_of s)
encoded_accepted s v =
    cond-false (ltb 65535 (length (encode s))) (format_fault TooLong 65535 0) (walked (suc (length (encode s))) (encode s) 0 0 nothing_yet) (le-ltb 65535 (length (encode s)) v.short)
    ∙ encoded_walk (encode s) s v refl

-- refused bytes encode none
refused_law : (xs : List ℕ) (f : SheetFault) → walked (suc (length xs)) xs 0 0 nothing_yet ≡ Err f → (s : Sheet) → Valid s → encode s ≡ xs → ⊥
refused_law xs f e s v same = no_fault _ f (sym (encoded_walk xs s v same) ∙ e)

-- and they are refused for what the fault says
why_law : (xs : List ℕ) (f : SheetFault) → length xs ≤ 65535 → walked (suc (length xs)) xs 0 0 nothing_yet ≡ Err f
    → Over xs (fault_number f) (fault_byte f) (fault_records f) ⊎ Off xs (fault_number f) (fault_byte f) (fault_records f)
    → Refused xs (fault_number f) (fault_byte f) (fault_records f)
why_law xs f short e (inl o) =
    let b : Begun = o.ended.begun in
    let all : AllThere b = o.ended.all in
    let bytes = ended_bytes b all in
    let same : xs ≡ encode (begun_sheet b) ++ o.more = o.ended.same ∙ sym (append_assoc (bytes_begun b) (framed end_record) o.more) ∙ ap (λ ys. ys ++ o.more) bytes in
    let size = ap length same ∙ length-append (encode (begun_sheet b)) o.more in
    let long = sym (ap length bytes) ∙ length-append (bytes_begun b) (framed end_record) in
    let many = sym (ap length (ended_records b all)) ∙ length-append (records_begun b) (end_record ∷ []) in
    trails o.number_is
    (record {
      short = short;
      sheet = begun_sheet b;
      valid = begun_valid b o.ended.keeps all (omega arith);
      more = o.more;
      some = o.some;
      same = same;
      byte_is = o.byte_is ∙ sym long;
      records_are = o.records_are ∙ sym many;
    })
why_law xs f short e (inr o) =
    goes_wrong
    (record {
      short = short;
      begun = o.begun;
      keeps = o.keeps;
      rest = o.rest;
      same = o.same;
      byte_is = o.byte_is;
      records_are = o.records_are;
      longest = λ c k after same. later _ after _ _ _ f (sym (walk_after xs after c (suc (length xs)) k short (omega arith) same) ∙ e);
      wrong = o.wrong;
    })

-- and for that alone
alone_law : (xs : List ℕ) (f : SheetFault) → length xs ≤ 65535 → walked (suc (length xs)) xs 0 0 nothing_yet ≡ Err f → (number byte records : ℕ) → Refused xs number byte records → Says f number byte records
alone_law xs f short e number byte records (too_long m l p n) = absurd (omega arith)
alone_law xs f short e number byte records (trails m t) =
    let some : eqb (length t.more) 0 ≡ false = ne_eqb (length t.more) 0 (λ z. t.some (nil_from_length t.more z)) in
    let at : Says f number (length (encode t.sheet)) (length (records_of t.sheet)) =
    says number _ f m (sym (walk_over xs t.more t.sheet t.valid short t.same ∙ cond-false (eqb (length t.more) 0) _ _ some) ∙ e) in
    record { number_is = at.number_is; byte_is = t.byte_is ∙ at.byte_is; records_are = t.records_are ∙ at.records_are }
alone_law xs f short e number byte records (goes_wrong w) =
    let b : Begun = w.begun in
    let few = records_few (records_begun w.begun) in
    let size = ap length w.same ∙ length-append (bytes_begun w.begun) w.rest in
    let left : suc (length xs) - length (records_begun w.begun) ≡ suc (length xs - length (records_begun w.begun)) = omega arith in
    let at : Says f number (length (bytes_begun b)) (length (records_begun b)) =
    wrong_found b w.keeps (length (bytes_begun b)) (length (records_begun b)) (length xs - length (records_begun b)) number f w.rest w.wrong
    (sym
    (walk_after xs w.rest b (suc (length xs)) w.keeps short (omega arith) w.same
    ∙ ap (λ m. walked m w.rest (length (bytes_begun b)) (length (records_begun b)) (begun_tally b)) left)
    ∙ e) in
    record { number_is = at.number_is; byte_is = w.byte_is ∙ at.byte_is; records_are = w.records_are ∙ at.records_are }

-- only too many bytes are too many
alone_long : (xs : List ℕ) (f : SheetFault) → 65535 < length xs → format_fault TooLong 65535 0 ≡ Err f → (number byte records : ℕ) → Refused xs number byte records → Says f number byte records
alone_long xs f long e number byte records (too_long m l p n) =
    let at : Says f number 65535 0 = says number _ f m e in
    record { number_is = at.number_is; byte_is = p ∙ at.byte_is; records_are = n ∙ at.records_are }
alone_long xs f long e number byte records (trails m t) = absurd (let s = t.short in omega arith)
alone_long xs f long e number byte records (goes_wrong w) = absurd (let s = w.short in omega arith)

-- nothing keeps every rule
pub nothing_keeps : Keeps nothing_begun
nothing_keeps =
    record {
      n_low = omega arith;
      few_variables = omega arith;
      variables_valid = tt;
      houses_differ = λ i j l. absurd (omega arith);
      in_turn = λ l. absurd (omega arith);
      few_constraints = omega arith;
      constraints_valid = tt;
      moves_valid = tt;
    }

law : (xs : List ℕ) → Bytes xs → Law xs (verdict xs)
law xs b = sized (ltb 65535 (length xs)) refl
  where
    by_walk : (r : Verdict) → length xs ≤ 65535 → walked (suc (length xs)) xs 0 0 nothing_yet ≡ r → LawOf xs r → Law xs r
    by_walk (Ok z) short e t = accepted_law xs z short t
    by_walk (Err f) short e t = record { no_sheet = refused_law xs f e; why = why_law xs f short e t; alone = alone_law xs f short e }

    sized : (t : Bool) → ltb 65535 (length xs) ≡ t → Law xs (cond t (format_fault TooLong 65535 0) (walked (suc (length xs)) xs 0 0 nothing_yet))
    sized true e =
        let l : 65535 < length xs = ltb-true 65535 (length xs) e in
        record {
          no_sheet = λ s v same. let k = v.short in let m = ap length same in omega arith;
          why = too_long refl l refl refl;
          alone = alone_long xs _ l refl;
        }
    sized false e =
        by_walk (walked (suc (length xs)) xs 0 0 nothing_yet) (ltb-false 65535 (length xs) e) refl (law_of (suc (length xs)) xs xs nothing_begun nothing_keeps b (omega arith) refl)

-- the same where each byte is known to be below 256 by its place
pub law_at : (xs : List ℕ) → ((k : ℕ) → get_or xs k 0 < 256) → Law xs (verdict xs)
law_at xs low = law xs (All-from_get_or (λ b. b < 256) xs 0 (λ i _. low i))
