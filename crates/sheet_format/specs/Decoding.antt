-- The sheet that bytes encode, read off them record by record. It is of interest for bytes that are the encoding of a sheet.
use Rattle.std.specs.Prelude.{ℕ, zero, suc, ◌/◌, cond, List, [], ◌∷◌, ◌++◌, length, take, drop, Some, None, Option, ◌==◌, slice_index}
use Rattle.std.proofs.Common.{to_z}
use Rattle.std.specs.Int.{w16, w32}
use Rattle.std.specs.Option.{option_to_list}
use Rattle.sheet_format.specs.declared.found.Variable.{Variable}
use Rattle.sheet_format.specs.Numbers.{number2, number4, number8}
use Rattle.sheet_format.specs.Value.{Constraint, sum, table, Move, add, retract, Sheet}
use Rattle.sheet_format.specs.Encoding.{Raw}

-- the record that bytes begin with
abbrev pub first_record : List ℕ → Raw
first_record xs = record { kind = number2 xs 2; body = drop 4 (take (number2 xs 0) xs) }

-- at most so many records, one after the other
unfoldable pub split : ℕ → List ℕ → List Raw
split zero xs = []
split (suc most) [] = []
split (suc most) (x ∷ xs) = first_record (x ∷ xs) ∷ split most (drop (number2 (x ∷ xs) 0) (x ∷ xs))

-- so many rows of eight bytes
unfoldable pub rows_in : ℕ → List ℕ → List ℕ
rows_in zero xs = []
rows_in (suc count) xs = number8 xs 0 ∷ rows_in count (drop 8 xs)

abbrev pub as_variable : Raw → Option Variable
as_variable r = cond (r.kind == 2) (Some (record { size = number2 r.body 0; house = number2 r.body 2 })) None

abbrev pub sum_in : List ℕ → Constraint
sum_in body =
    sum (slice_index body 0) (slice_index body 1) (to_z w16 (number2 body 2)) (to_z w16 (number2 body 4)) (to_z w32 (number4 body 6)) (to_z w32 (number4 body 10))

abbrev pub table_in : List ℕ → Constraint
table_in body = table (slice_index body 0) (slice_index body 1) (rows_in (length (drop 2 body) / 8) (drop 2 body))

abbrev pub as_constraint : Raw → Option Constraint
as_constraint r = cond (r.kind == 3) (Some (sum_in r.body)) (cond (r.kind == 4) (Some (table_in r.body)) None)

abbrev pub as_move : Raw → Option Move
as_move r =
    cond (r.kind == 5) (Some (add (number2 r.body 0))) (cond (r.kind == 6) (Some (retract (number2 r.body 0))) None)

-- those of the records that are of one sort
abbrev pub gathered : {X : Type 0} → (Raw → Option X) → List Raw → List X
gathered f [] = []
gathered f (r ∷ rs) = option_to_list (f r) ++ gathered f rs

abbrev pub sheet_of : List Raw → Sheet
sheet_of rs = record { variables = gathered as_variable rs; constraints = gathered as_constraint rs; moves = gathered as_move rs }

abbrev pub decode : List ℕ → Sheet
decode xs = sheet_of (split (length xs) xs)
