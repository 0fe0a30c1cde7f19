use Rattle.std.proofs.Common.{take}
use Rattle.scratch.specs.Filled.{Filled}
use Rattle.scratch.specs.Named.{named}
use Rattle.scratch.proofs.request.Request.fill.Given as goal

abbrev pub invariant-loop-p : goal.invariant-loop-p
invariant-loop-p g l = Filled (g.C.Catalog.meaning l.self.catalog.now) l.self.sizes.now (named (take l.p-index l.self.indices.now)) l.arcs
