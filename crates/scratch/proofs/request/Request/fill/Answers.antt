use Rattle.std.proofs.Common.{length, take}
use Rattle.scratch.specs.Named.{named}
use Rattle.scratch.proofs.Accepting.{indices_each}
use Rattle.scratch.proofs.Keeping.{none_kept, filled_none, filled_more, filled_all}
use Rattle.scratch.proofs.request.Request.fill.Goals as goal

pub loop-p-init : goal.loop-p-init
loop-p-init g c = filled_none (g.C.Catalog.meaning c.args.self.now.catalog.now) c.args.self.now.sizes.now _ (none_kept 256)

pub keep-requires : goal.keep-requires
keep-requires g c =
    let n = c.args.self.now in
    indices_each (g.C.Catalog.meaning n.catalog.now) (length n.sizes.now) n.indices.now c.requires c.loop-p.p-index c.loop-p-test.true

pub loop-p-preserved : goal.loop-p-preserved
loop-p-preserved g c =
    let n = c.args.self.now in
    filled_more (g.C.Catalog.meaning n.catalog.now) n.sizes.now c.keep.new.arcs n.indices.now c.loop-p.p-index c.loop-p-test.true
    (c.keep.ensures (named (take c.loop-p.p-index n.indices.now)) c.loop-p.invariant)

pub returns : goal.returns
returns g c =
    let n = c.args.self.now in
    filled_all (g.C.Catalog.meaning n.catalog.now) n.sizes.now c.loop-p.arcs n.indices.now c.loop-p.p-index c.loop-p-test.false c.loop-p.invariant
