use Rattle.std.proofs.Common.{◌*◌, ◌<◌, ◌≤◌, length, None, sym, ap, ◌∙◌, arith}
use Rattle.std.proofs.lemmas.List.{get_or_read}
use Rattle.scratch.proofs.Accepting.{constraint_between}
use Rattle.scratch.proofs.Keeping.{filled_again, kept_some, rows_hold, put_filled}
use Rattle.std.specs.Option.{is_some}
use Rattle.scratch.specs.Rows.{is_kept}
use Rattle.scratch.proofs.request.Request.keep.Goals as goal

pub returns-in-Some : goal.returns-in-Some
returns-in-Some g c =
    let m = g.C.Catalog.meaning c.args.self.now.catalog.now in
    let few : m.count ≤ 128 = (g.C.Catalog.lawful c.args.self.now.catalog.now).few in
    let low : c.args.p < m.count = (constraint_between m _ c.args.p c.requires).is_one in
    put_filled m c.args.self.now.sizes.now c.args.arcs.now c.args.p c.in-Some.a c.in-Some.b _ c.turned.result c.in-Some.ensures.value (omega arith) c.told-arcs
    (rows_hold m c.args.self.now.sizes.now c.args.p _ c.rows.ensures)
    (record { near = c.turned.ensures.near; far = c.turned.ensures.far; rows = c.turned.ensures.rows })

pub returns-then-is_some : goal.returns-then-is_some
returns-then-is_some g c =
    let m = g.C.Catalog.meaning c.args.self.now.catalog.now in
    let few : m.count ≤ 128 = (g.C.Catalog.lawful c.args.self.now.catalog.now).few in
    let low : c.args.p < m.count = (constraint_between m _ c.args.p c.requires).is_one in
    let inside : 2 * c.args.p < length c.args.arcs.now = omega arith in
    let there = get_or_read c.args.arcs.now (2 * c.args.p) c.index-arcs-p.result inside c.index-arcs-p.is None in
    filled_again m c.args.self.now.sizes.now c.args.arcs.now c.args.p
    (ap is_kept (sym there) ∙ kept_some c.index-arcs-p.result (ap is_some c.index-arcs-p.is ∙ sym c.is_some.ensures ∙ c.if-is_some.true))
