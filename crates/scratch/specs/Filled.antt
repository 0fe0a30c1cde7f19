-- Constraints of a catalog kept as arcs: constraint p, seen from its left end and from its right end, at the places 2 p and 2 p + 1.
use Rattle.std.specs.Prelude.{◌≡◌, ℕ, ◌+◌, ◌*◌, ◌<◌, Bool, true, false, ◌||◌, List, None, Option, ◌==◌, slice_index, slice_index_or}
use Rattle.bits.specs.Bits.{has_bit}
use Rattle.catalog.specs.Meaning.{Meaning, allowed}
use Rattle.scratch.specs.declared.arc.Arc.{Arc}
use Rattle.scratch.specs.Rows.{is_kept, arc_of, on_at}

-- the place keeps an arc from `near` to `far`, with rows that say what `fits` does of the values inside the sizes
pub record Holds (sizes : List ℕ) (near far : ℕ) (fits : ℕ → ℕ → Bool) (place : Option Arc) : Type 0 where
  pub on : is_kept place ≡ true
  pub at_near : (arc_of place).near ≡ near
  pub at_far : (arc_of place).far ≡ far
  pub rows : (x y : ℕ) → x < slice_index sizes near → y < slice_index sizes far → has_bit (slice_index (arc_of place).rows x) y ≡ fits x y

-- the same pairs of values, seen from the other end
pub record Turned (arc other : Arc) : Type 0 where
  pub near : other.near ≡ arc.far
  pub far : other.far ≡ arc.near
  pub rows : (x y : ℕ) → has_bit (slice_index other.rows y) x ≡ has_bit (slice_index arc.rows x) y

-- the constraint p both ways
pub record Kept (m : Meaning) (sizes : List ℕ) (ks : List (Option Arc)) (p : ℕ) : Type 0 where
  pub there : Holds sizes (m.left p) (m.right p) (allowed m p) (slice_index_or ks (2 * p) None)
  pub back : Holds sizes (m.right p) (m.left p) (λ y x. allowed m p x y) (slice_index_or ks (2 * p + 1) None)

-- nothing at the places of p
pub record Free (ks : List (Option Arc)) (p : ℕ) : Type 0 where
  pub there : on_at ks (2 * p) ≡ false
  pub back : on_at ks (2 * p + 1) ≡ false

-- just the chosen constraints are kept
pub record Filled (m : Meaning) (sizes : List ℕ) (chosen : ℕ → Bool) (ks : List (Option Arc)) : Type 0 where
  pub kept : (p : ℕ) → chosen p ≡ true → Kept m sizes ks p
  pub free : (p : ℕ) → chosen p ≡ false → Free ks p

-- whatever was kept before, the constraint p is kept too
abbrev pub Adds : Meaning → List ℕ → ℕ → List (Option Arc) → List (Option Arc) → Type 0
Adds m sizes p before after =
    (chosen : ℕ → Bool) → Filled m sizes chosen before → Filled m sizes (λ q. (p == q) || chosen q) after
