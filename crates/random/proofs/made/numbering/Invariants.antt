use Rattle.std.proofs.Common.{min, ◌<◌, ◌≡◌, ◌≤◌, ℕ, slice_index}
use Rattle.random.proofs.made.numbering.Given as goal

-- what lies past the span is as it was
abbrev pub invariant-loop-e : goal.invariant-loop-e
invariant-loop-e l = (l.e-end ≡ min l.span 32) × ((k : ℕ) → min l.span 32 ≤ k → k < 32 → slice_index l.list k ≡ k)
