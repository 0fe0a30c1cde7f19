-- Arcs that are kept as rows of bits, in places that may be empty.
use Rattle.std.specs.Prelude.{ℕ, ◌<◌, ◌≤◌, Bool, true, false, ◌&&◌, List, length, replicate, Some, None, Option, ◌==◌, slice_index, slice_index_or, refl}
use Rattle.arcs.specs.Arcs.{Arcs}
use Rattle.bits.specs.Bits.{has_bit}
use Rattle.scratch.specs.declared.arc.Arc.{Arc}

-- does a place keep an arc
abbrev pub is_kept : Option Arc → Bool
is_kept None = false
is_kept (Some arc) = true

-- the arc that a place keeps, or one that allows nothing
abbrev pub arc_of : Option Arc → Arc
arc_of None = record { near = 0; far = 0; rows = replicate 64 0; full = refl }
arc_of (Some arc) = arc

-- the place k of a list of places; past its end nothing is kept
abbrev pub on_at : List (Option Arc) → ℕ → Bool
on_at ks k = is_kept (slice_index_or ks k None)

abbrev pub arc_at : List (Option Arc) → ℕ → Arc
arc_at ks k = arc_of (slice_index_or ks k None)

-- a list of places as arcs: the reason k is what the place k keeps, at its near variable
abbrev pub arcs_of_rows : List (Option Arc) → Arcs
arcs_of_rows ks = record {
  on = λ i k. on_at ks k && ((arc_at ks k).near == i);
  far = λ i k. (arc_at ks k).far;
  fits = λ i k x y. has_bit (slice_index (arc_at ks k).rows x) y;
}

-- each size is at most 64
abbrev pub Bounded : List ℕ → Type 0
Bounded sizes = (i : ℕ) → i < length sizes → slice_index sizes i ≤ 64
