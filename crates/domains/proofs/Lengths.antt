-- Constraints are their data: how their lengths were proved makes no difference.
use Rattle.std.proofs.Common.{◌≡◌, ℕ, ◌<◌, Bool, List, [], length, get_or}
use mathlib.Core.HLevel.{Π_prop}
use native.Mathlib.Nat.{ℕ_set}
use Rattle.domains.specs.declared.Constraints.{Constraints}
use Rattle.domains.specs.declared.Ends.{Ends}

module _ {sizes : List ℕ} {present : List Bool} {ends : List Ends} {rows : List (List ℕ)} where
  pub same_data
      : {s s' : length sizes ≡ 32} {p p' : length present ≡ 128} {e e' : length ends ≡ 128} {w w' : length rows ≡ 256} {f f' : (s : ℕ) → s < 256 → length (get_or rows s []) ≡ 64}
      → ◌≡◌ {A = Constraints} (record { sizes = sizes; present = present; ends = ends; rows = rows; sizes_long = s; present_long = p; ends_long = e; rows_long = w; each_row_long = f }) (record { sizes = sizes; present = present; ends = ends; rows = rows; sizes_long = s'; present_long = p'; ends_long = e'; rows_long = w'; each_row_long = f' })
  same_data {s} {s'} {p} {p'} {e} {e'} {w} {w'} {f} {f'} i =
      record {
        sizes = sizes;
        present = present;
        ends = ends;
        rows = rows;
        sizes_long = ℕ_set _ _ s s' i;
        present_long = ℕ_set _ _ p p' i;
        ends_long = ℕ_set _ _ e e' i;
        rows_long = ℕ_set _ _ w w' i;
        each_row_long = Π_prop (λ _. Π_prop (λ _. ℕ_set _ _)) f f' i;
      }
