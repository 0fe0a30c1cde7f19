-- Where the moves of a sheet stand in its bytes.
use Rattle.std.proofs.Common.{◌-◌, length-drop, length-take-le, ◌/◌, ◌≤◌, drop, ◌≡◌, ℕ, zero, suc, false, ◌≢◌, ◌+◌, ◌*◌, eqb, List, [], ◌∷◌, ◌++◌, map, length, take, sym, refl, ap, ◌∙◌, arith}
use Rattle.std.specs.List.{flat_map, AllByRecursion}
use Rattle.std.specs.Simd.{first_chunks}
use Rattle.std.proofs.lemmas.List.{take_all, append_assoc, length-append, drop_at}
use Rattle.std.proofs.lemmas.Bool.{ne_eqb}
use Rattle.std.proofs.lemmas.List.Concat.{flat_map-append}
use Rattle.sheet_format.specs.declared.found.Summary.{Summary}
use Rattle.sheet_format.specs.declared.kinds.Kind.{Kind}
use Rattle.sheet_format.specs.declared.kinds.Kind.TheVariants.{Add}
use Rattle.sheet_format.specs.Kinds.{kind_number}
use Rattle.sheet_format.specs.Value.{Move, add, retract, Sheet, ValidMove}
use Rattle.sheet_format.specs.Encoding.{framed, heading_record, variable_record, constraint_record, move_record, end_record, encode}
use Rattle.sheet_format.specs.Decoding.{decode}
use Rattle.sheet_format.specs.Law.{Encodes, summary_of}
use Rattle.sheet.specs.declared.accepted.Accepted.{Accepted}
use Rattle.sheet.proofs.Encoded.{encoded}
use Rattle.sheet_law.proofs.NumberLaws.{two_back}
use Rattle.sheet_law.proofs.Framing.{variables_long}
use Rattle.sheet.specs.Moves.{move_of, move_by_kind}

-- a number that no kind has is not that of an add
pub no_add : (number : ℕ) → ((kind : Kind) → kind_number kind ≢ number) → eqb number 5 ≡ false
no_add number none = ne_eqb number 5 (λ e. none Add (sym e))

-- the moves one after the other
in_order : (ms : List Move) (rest : List ℕ) (n : ℕ) → length ms ≤ n → AllByRecursion ValidMove ms
    → map move_of (map move_by_kind (take (length ms) (first_chunks 6 n (flat_map framed (map move_record ms) ++ rest)))) ≡ ms
in_order [] rest n l valid = refl
in_order (m ∷ ms) rest zero l valid = absurd (omega arith)
in_order (add p ∷ ms) rest (suc n) l valid =
    ap (λ q. add q ∷ map move_of (map move_by_kind (take (length ms) (first_chunks 6 n (flat_map framed (map move_record ms) ++ rest))))) (two_back p [] valid.0)
    ∙ ap (λ ns. add p ∷ ns) (in_order ms rest n (omega arith) valid.1)
in_order (retract p ∷ ms) rest (suc n) l valid =
    ap (λ q. retract q ∷ map move_of (map move_by_kind (take (length ms) (first_chunks 6 n (flat_map framed (map move_record ms) ++ rest))))) (two_back p [] valid.0)
    ∙ ap (λ ns. retract p ∷ ns) (in_order ms rest n (omega arith) valid.1)

moves_long : (ms : List Move) → length (flat_map framed (map move_record ms)) ≡ 6 * length ms
moves_long [] = refl
moves_long (add p ∷ ms) = let k = moves_long ms in omega arith
moves_long (retract p ∷ ms) = let k = moves_long ms in omega arith

-- all that stands before the moves
before : Sheet → List ℕ
before s = framed (heading_record (length s.variables)) ++ (flat_map framed (map variable_record s.variables) ++ flat_map framed (map constraint_record s.constraints))

before_long : (s : Sheet) → length (before s) ≡ (summary_of s).moves_at
unfolding before
before_long s =
    let v = variables_long s.variables in
    let a = length-append (framed (heading_record (length s.variables))) (flat_map framed (map variable_record s.variables) ++ flat_map framed (map constraint_record s.constraints)) in
    let b = length-append (flat_map framed (map variable_record s.variables)) (flat_map framed (map constraint_record s.constraints)) in
    omega arith

encode_cut : (s : Sheet) → encode s ≡ before s ++ (flat_map framed (map move_record s.moves) ++ framed end_record)
unfolding before
encode_cut s =
    let h : List ℕ = framed (heading_record (length s.variables)) in
    let v : List ℕ = flat_map framed (map variable_record s.variables) in
    let c : List ℕ = flat_map framed (map constraint_record s.constraints) in
    let m : List ℕ = flat_map framed (map move_record s.moves) in
    ap (λ xs. h ++ xs) (flat_map-append framed (map variable_record s.variables) _)
    ∙ ap (λ xs. h ++ (v ++ xs)) (flat_map-append framed (map constraint_record s.constraints) _)
    ∙ ap (λ xs. h ++ (v ++ (c ++ xs))) (flat_map-append framed (map move_record s.moves) (end_record ∷ []))
    ∙ ap (λ xs. h ++ xs) (sym (append_assoc v c (m ++ framed end_record)))
    ∙ sym (append_assoc h (v ++ c) (m ++ framed end_record))

-- the bytes from a place on
abbrev from : ℕ → List ℕ → List ℕ
from n xs = take (length xs - n) (drop n xs)

from_drop : (n : ℕ) (xs : List ℕ) → from n xs ≡ drop n xs
from_drop n xs = let l = length-drop n xs in take_all (length xs - n) (drop n xs) (omega arith)

-- the moves of accepted bytes
pub moves_read : (xs : List ℕ) (found : Summary) → Encodes xs found
    → map move_of (map move_by_kind (take found.moves (first_chunks 6 (length (from found.moves_at xs) / 6) (from found.moves_at xs)))) ≡ (decode xs).moves
moves_read xs found e =
    let s : Sheet = decode xs in
    let many : found.moves ≡ length (decode xs).moves = ap (λ z. z.moves) e.sums_up in
    let place : found.moves_at ≡ length (before (decode xs)) = ap (λ z. z.moves_at) e.sums_up ∙ sym (before_long (decode xs)) in
    let here : from found.moves_at xs ≡ flat_map framed (map move_record s.moves) ++ framed end_record =
    from_drop found.moves_at xs ∙ ap (drop found.moves_at) (sym e.same ∙ encode_cut s) ∙ drop_at (before s) (flat_map framed (map move_record s.moves) ++ framed end_record) found.moves_at (sym place) in
    let long : length (flat_map framed (map move_record s.moves) ++ framed end_record) ≡ 6 * length s.moves + 4 =
    (let a = length-append (flat_map framed (map move_record s.moves)) (framed end_record) in let b = moves_long s.moves in omega arith) in
    let enough : length s.moves ≤ length (flat_map framed (map move_record s.moves) ++ framed end_record) / 6 = omega arith in
    ap (λ ys. map move_of (map move_by_kind (take found.moves (first_chunks 6 (length ys / 6) ys)))) here
    ∙ ap (λ n. map move_of (map move_by_kind (take n (first_chunks 6 (length (flat_map framed (map move_record s.moves) ++ framed end_record) / 6) (flat_map framed (map move_record s.moves) ++ framed end_record))))) many
    ∙ in_order s.moves (framed end_record) _ enough e.valid.moves_valid

moves_fit : (xs : List ℕ) (found : Summary) → Encodes xs found → found.moves_at + 6 * found.moves + 4 ≡ length xs
moves_fit xs found e =
    let many : found.moves ≡ length (decode xs).moves = ap (λ z. z.moves) e.sums_up in
    let place : found.moves_at ≡ length (before (decode xs)) = ap (λ z. z.moves_at) e.sums_up ∙ sym (before_long (decode xs)) in
    let whole : length xs ≡ length (before (decode xs) ++ (flat_map framed (map move_record (decode xs).moves) ++ framed end_record)) = ap length (sym e.same ∙ encode_cut (decode xs)) in
    let a = length-append (before (decode xs)) (flat_map framed (map move_record (decode xs).moves) ++ framed end_record) in
    let b = length-append (flat_map framed (map move_record (decode xs).moves)) (framed end_record) in
    let c = moves_long (decode xs).moves in
    omega arith

-- there are as many records of six bytes there
pub records_there : (xs : List ℕ) (found : Summary) → Encodes xs found → (records : List (List ℕ)) → length records ≡ length (from found.moves_at xs) / 6
    → found.moves ≡ length (take found.moves records)
records_there xs found e records h =
    let fit = moves_fit xs found e in
    let d : length (from found.moves_at xs) ≡ length xs - found.moves_at = ap length (from_drop found.moves_at xs) ∙ length-drop found.moves_at xs in
    let enough : found.moves ≤ length records = omega arith in
    sym (length-take-le found.moves records enough)

-- the moves of a checked sheet stand in its bytes
pub fit_at : (s : Accepted) → s.found.moves_at + 6 * s.found.moves + 4 ≡ length s.bytes.now
fit_at s = moves_fit s.bytes.now s.found (encoded s)
