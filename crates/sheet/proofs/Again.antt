-- A record that passes the check is that of the entry which it says.
use Rattle.std.proofs.Common.{◌≡◌, ℕ, zero, suc, ◌*◌, ◌/◌, eqb, List, [], ◌∷◌, ◌++◌, length, sym, ap, ◌∙◌, subst, arith}
use Rattle.std.specs.List.{flat_map, AllByRecursion}
use Rattle.std.proofs.lemmas.Bool.{eqb-true, and_parts}
use Rattle.std.proofs.lemmas.List.{nil_from_length}
use Rattle.sheet_format.specs.declared.found.Variable.{Variable}
use Rattle.sheet_format.specs.Numbers.{two, eight, number2}
use Rattle.sheet_format.specs.Value.{size_at, ValidVariable}
use Rattle.sheet_format.specs.Encoding.{Raw, constraint_record}
use Rattle.sheet_format.specs.Decoding.{rows_in, sum_in}
use Rattle.sheet_format.specs.Reading.{Shown, shows_heading, shows_variable, shows_sum, shows_table, shows_short_table, shows_add, shows_retract, shows_end}
use Rattle.sheet_format.specs.Verdict.{Tally, between}
use Rattle.sheet_format.specs.Writing.{entry_record}
use Rattle.sheet_law.proofs.NumberLaws.{Bytes}
use Rattle.sheet_law.proofs.Held.{GoesHeld, EndHeld}
use Rattle.sheet_law.proofs.Shows.{KindIs}
use Rattle.sheet_law.proofs.Rows.{RowsBack, rows_back}
use Rattle.sheet_law.proofs.Items.{same_raw, two_numbers, one_number, sum_again}
use Rattle.sheet.specs.Sizes.{SizesLow}
use Rattle.sheet.specs.Copying.{Sayable, entry_in}

pub record Sound (raw : Raw) (s : Shown) : Type 0 where
  pub again : entry_record (entry_in s) ≡ raw
  pub sayable : Sayable s

pub valid_low : (n : ℕ) (vs : List Variable) → AllByRecursion (ValidVariable n) vs → SizesLow vs
valid_low n [] v i = omega arith
valid_low n (x ∷ vs) v zero = v.0.few_values
valid_low n (x ∷ vs) v (suc i) = valid_low n vs v.1 i

eighths : (n count : ℕ) → n ≡ 8 * count → n / 8 ≡ count
eighths n count e = omega arith

pub goes_sound : (g : Tally) (raw : Raw) (s : Shown) (after : ℕ) (h : Tally) → SizesLow g.variables → Bytes raw.body → KindIs raw.kind raw.body s → GoesHeld g s after h → Sound raw s
goes_sound g raw (shows_heading body) after h low b kind q =
    let good = and_parts (eqb (number2 body 0) 1) (between 1 32 (number2 body 2)) q.good in
    record {
      again = sym (same_raw raw 1 (two 1 ++ two (number2 body 2)) kind.0 (kind.1 ∙ two_numbers body (subst Bytes kind.1 b) (eqb-true (length body) 4 q.long) ∙ ap (λ m. two m ++ two (number2 body 2)) (eqb-true (number2 body 0) 1 good.0)));
      sayable = tt;
    }
goes_sound g raw (shows_variable body) after h low b kind q =
    record { again = sym (same_raw raw 2 _ kind.0 (kind.1 ∙ two_numbers body (subst Bytes kind.1 b) (eqb-true (length body) 4 q.long))); sayable = tt }
goes_sound g raw (shows_sum body) after h low b kind q =
    let long : length body ≡ 14 = eqb-true (length body) 14 q.1.long in
    record { again = sym (same_raw raw 3 (constraint_record (sum_in body)).body kind.0 (kind.1 ∙ (sum_again body (subst Bytes kind.1 b) long).0)); sayable = omega arith }
goes_sound g raw (shows_table x y rows at) after h low b kind q =
    let count : ℕ = size_at g.variables x in
    let few = low x in
    let long : length rows ≡ 8 * size_at g.variables x = eqb-true (length rows) (8 * size_at g.variables x) q.1.long in
    let back : RowsBack count (size_at g.variables y) rows = rows_back count (size_at g.variables y) rows (subst Bytes kind.1 b).1.1 long q.1.good in
    record {
      again =
          sym (same_raw raw 4 (x ∷ (y ∷ flat_map eight (rows_in (length rows / 8) rows))) kind.0
          (kind.1 ∙ ap (λ zs. x ∷ (y ∷ zs)) (back.same ∙ ap (λ m. flat_map eight (rows_in m rows)) (sym (eighths (length rows) count long)))));
      sayable = omega arith;
    }
goes_sound g raw (shows_short_table body) after h low b kind q = absurd q
goes_sound g raw (shows_add body) after h low b kind q =
    record { again = sym (same_raw raw 5 _ kind.0 (kind.1 ∙ (one_number body (subst Bytes kind.1 b) (eqb-true (length body) 2 q.long)).0)); sayable = tt }
goes_sound g raw (shows_retract body) after h low b kind q =
    record { again = sym (same_raw raw 6 _ kind.0 (kind.1 ∙ (one_number body (subst Bytes kind.1 b) (eqb-true (length body) 2 q.long)).0)); sayable = tt }
goes_sound g raw (shows_end body) after h low b kind q = absurd q

pub end_sound : (g : Tally) (raw : Raw) (s : Shown) → KindIs raw.kind raw.body s → EndHeld g s → Sound raw s
end_sound g raw (shows_heading body) kind q = absurd q
end_sound g raw (shows_variable body) kind q = absurd q
end_sound g raw (shows_sum body) kind q = absurd q
end_sound g raw (shows_table x y rows at) kind q = absurd q
end_sound g raw (shows_short_table body) kind q = absurd q
end_sound g raw (shows_add body) kind q = absurd q
end_sound g raw (shows_retract body) kind q = absurd q
end_sound g raw (shows_end body) kind q =
    record { again = sym (same_raw raw 7 [] kind.0 (kind.1 ∙ nil_from_length body (eqb-true (length body) 0 q.1))); sayable = tt }
