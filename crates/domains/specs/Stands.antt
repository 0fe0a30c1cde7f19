-- When constraints and domains stand rightly together, between calls.
use Rattle.std.specs.Prelude.{◌≡◌, ℕ, ◌<◌, Bool, List, length, drop, ◌≢◌, nat_lt, slice_index, slice_set}
use Rattle.std.proofs.Common.{length-set, ◌∙◌}
use Rattle.arcs.specs.Family.{Consistent}
use Rattle.domains.specs.declared.Constraints.{Constraints}
use Rattle.domains.specs.declared.Domains.{Domains}
use Rattle.bits.specs.Bits.{has_bit}
use Rattle.domains.specs.Model.{arcs_of, left_of, pair_at, right_of, shown}
use Rattle.domains.specs.Sound.{Shape, Sound}

-- the shown values are consistent under the constraints that are in, and all others are justified
pub record Stands (c : Constraints) (d : Domains) : Type 0 where
  pub shape : Shape c
  pub sound : Sound c d
  pub consistent : Consistent (arcs_of c) (shown d)

-- the constraints with p in, or not in
abbrev pub with_present : Constraints → ℕ → Bool → Constraints
with_present c p b =
    record {
      sizes = c.sizes;
      present = slice_set c.present p b;
      ends = c.ends;
      rows = c.rows;
      sizes_long = c.sizes_long;
      present_long = length-set c.present p b ∙ c.present_long;
      ends_long = c.ends_long;
      rows_long = c.rows_long;
      each_row_long = c.each_row_long;
    }

-- the last time at which a constraint may go in or out: at most 2,048 values go out then, and each takes one of the times below 2 ^ 32
abbrev pub last_time : ℕ
last_time = 4294965247

-- too few times are left for a change
abbrev pub spent : ℕ → Bool
spent clock = nat_lt last_time clock

-- a lent buffer is as long as it was, and past its first n entries as it was
pub record Past {T : Type 0} (n : ℕ) (buffer buffer' : List T) : Type 0 where
  pub long : length buffer' ≡ length buffer
  pub rest : drop n buffer' ≡ drop n buffer

-- The constraint p, which is not in, has these ends and rows; all else is as it was.
pub record Loaded (c c' : Constraints) (p left right : ℕ) (rows : List ℕ) : Type 0 where
  pub left_end : left_of c' p ≡ left
  pub right_end : right_of c' p ≡ right
  pub pairs : (x y : ℕ) → x < 64 → pair_at c' p x y ≡ has_bit (slice_index rows x) y
  pub left_others : (r : ℕ) → (r ≢ p) → left_of c' r ≡ left_of c r
  pub right_others : (r : ℕ) → (r ≢ p) → right_of c' r ≡ right_of c r
  pub pair_others : (r x y : ℕ) → (r ≢ p) → pair_at c' r x y ≡ pair_at c r x y
  pub sizes : c'.sizes ≡ c.sizes
  pub present : c'.present ≡ c.present
