-- The constraint that a record shows.
use Rattle.std.specs.Prelude.{ℕ, ◌/◌, cond, List, length, Some, None, Option, nat_lt}
use Rattle.sheet_format.specs.Value.{sum, table}
use Rattle.sheet_format.specs.Value as value
use Rattle.sheet_format.specs.Decoding.{sum_in, rows_in}
use Rattle.sheet_format.specs.Reading.{Shown, shows_heading, shows_variable, shows_sum, shows_table, shows_short_table, shows_add, shows_retract, shows_end, Reading, taken, broken}
use Rattle.sheet_catalog.specs.declared.view.Constraint.{Constraint}
use Rattle.sheet_catalog.specs.declared.view.Pairs.{Pairs}
use Rattle.sheet_catalog.specs.declared.view.Pairs.TheVariants.{Sum, Table}

abbrev pub meant_by : ℕ → ℕ → Pairs → value.Constraint
meant_by a b (Sum f) = sum a b f.m f.k f.lo f.hi
meant_by a b (Table rows) = table a b (rows_in (length rows.now / 8) rows.now)

-- the constraint of the format that a view is of
abbrev pub meant : Constraint → value.Constraint
meant c = meant_by c.left c.right c.pairs

abbrev pub sum_shown : List ℕ → Option value.Constraint
sum_shown body = cond (nat_lt (length body) 14) None (Some (sum_in body))

-- the constraint that a record shows; of a sum, where its body is long enough
abbrev pub constraint_shown : Shown → Option value.Constraint
constraint_shown (shows_heading body) = None
constraint_shown (shows_variable body) = None
constraint_shown (shows_sum body) = sum_shown body
constraint_shown (shows_table a b rows place) = Some (table a b (rows_in (length rows / 8) rows))
constraint_shown (shows_short_table body) = None
constraint_shown (shows_add body) = None
constraint_shown (shows_retract body) = None
constraint_shown (shows_end body) = None

-- the constraint that a reading took off, if it is one
abbrev pub constraint_read : Reading → Option value.Constraint
constraint_read (taken s rest) = constraint_shown s
constraint_read (broken cause) = None
