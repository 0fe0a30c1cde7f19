use Rattle.std.proofs.Common.{◌≡◌, length, ◌∙◌, arith}
use native.Mathlib.Nat.{sub-zero}
use Rattle.std.proofs.lemmas.List.{length-take-le}
use Rattle.scratch.proofs.Accepting.{accepted}
use Rattle.scratch.proofs.Translating.{kept_placed, written}
use Rattle.scratch.proofs.request.Request.write.Goals as goal

pub settle-requires : goal.settle-requires
settle-requires g c =
    let m = g.C.Catalog.meaning c.args.self.now.catalog.now in
    let a = accepted m c.args.self.now.sizes.now c.args.self.now.indices.now (length c.args.out.now) c.requires in
    let len : length c.whole.new.domains ≡ length c.args.self.now.sizes.now =
    c.whole.auto.domains ∙ length-take-le _ c.args.out.now (omega (arith, a.wide)) ∙ sub-zero (length c.args.self.now.sizes.now)
    in
    record {
      placed =
          λ k on.
          let p = kept_placed m (g.C.Catalog.lawful c.args.self.now.catalog.now) c.args.self.now.sizes.now c.args.self.now.indices.now c.fill-arcs.result a.each c.fill-arcs.ensures k on in
          (omega (arith, p.0), omega (arith, p.1));
      few = omega (arith, a.fitting.few);
    }

pub returns : goal.returns
returns g c =
    let m = g.C.Catalog.meaning c.args.self.now.catalog.now in
    let a = accepted m c.args.self.now.sizes.now c.args.self.now.indices.now (length c.args.out.now) c.requires in
    let len : length c.settle.new.domains ≡ length c.args.self.now.sizes.now =
    c.settle.auto.domains ∙ c.whole.auto.domains ∙ length-take-le _ c.args.out.now (omega (arith, a.wide)) ∙ sub-zero (length c.args.self.now.sizes.now)
    in
    written m (g.C.Catalog.lawful c.args.self.now.catalog.now) c.args.self.now.sizes.now c.args.self.now.indices.now c.fill-arcs.result a.each c.fill-arcs.ensures
    _ c.args.out.now c.whole.new.domains c.settle.new.domains (sub-zero (length c.args.self.now.sizes.now)) len c.whole.ensures
    c.settle.ensures
