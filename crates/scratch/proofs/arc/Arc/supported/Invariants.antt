use Rattle.std.proofs.Common.{◌≡◌, ℕ, ◌<◌, ◌≤◌, ltb, slice_index, false}
use lib.Bits.{bit_and}
use Rattle.bits.specs.Bits.{has_bit}
use Rattle.scratch.proofs.arc.Arc.supported.Given as goal

abbrev pub invariant-loop-x : goal.invariant-loop-x
invariant-loop-x l =
    ((y : ℕ) → y < l.x → has_bit l.found y ≡ ltb 0 (bit_and (slice_index l.self.rows y) l.far))
    × ((y : ℕ) → l.x ≤ y → has_bit l.found y ≡ false)
