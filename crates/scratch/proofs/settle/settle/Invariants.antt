use Rattle.std.proofs.Common.{◌+◌, ◌*◌, cond, eqb, sum}
use Rattle.arcs.specs.Around.{Around}
use Rattle.bits.specs.Bits.{domains_of}
use Rattle.scratch.specs.Rows.{arcs_of_rows}
use Rattle.scratch.specs.Settling.{Waits}
use Rattle.scratch.proofs.settle.settle.Given as goal

abbrev pub invariant-loop-stale : goal.invariant-loop-stale
invariant-loop-stale l =
    Around (arcs_of_rows l.arcs) (domains_of l.initial.domains) (domains_of l.domains)
    × Waits (arcs_of_rows l.arcs) l.stale (domains_of l.domains)

abbrev pub decreases-loop-stale : goal.decreases-loop-stale
decreases-loop-stale l = sum l.domains * 2 + cond (eqb l.stale 0) 0 1
