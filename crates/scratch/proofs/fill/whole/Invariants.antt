use Rattle.std.proofs.Common.{◌≡◌, ℕ, ◌<◌}
use Rattle.arcs.specs.Family.{within_sizes}
use Rattle.bits.specs.Bits.{domains_of}
use Rattle.scratch.proofs.fill.whole.Given as goal

abbrev pub invariant-loop-i : goal.invariant-loop-i
invariant-loop-i l = (j x : ℕ) → j < l.i → domains_of l.domains j x ≡ within_sizes l.sizes j x
