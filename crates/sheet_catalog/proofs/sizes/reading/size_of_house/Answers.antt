use Rattle.std.proofs.Common.{◌<◌, length, sym, ◌∙◌, arith}
use Rattle.sheet_format.specs.Decoding.{decode}
use Rattle.sheet_catalog.proofs.Placing.{house_here, house_later}
use Rattle.sheet_catalog.proofs.Known.{many}
use Rattle.sheet_catalog.proofs.sizes.reading.size_of_house.Goals as goal

pub returns-then-variable-h : goal.returns-then-variable-h
returns-then-variable-h c =
    let k = many c.args.sheet.now in
    let low : c.loop-e.e < length (decode c.args.sheet.now.bytes.now).variables = omega arith in
    sym (house_here _ c.loop-e.e c.args.h c.variable_at-variable.result low c.variable_at-variable.ensures c.if-variable-h.true)
    ∙ c.loop-e.invariant

pub loop-e-preserved : goal.loop-e-preserved
loop-e-preserved c =
    let k = many c.args.sheet.now in
    let low : c.loop-e.e < length (decode c.args.sheet.now.bytes.now).variables = omega arith in
    house_later _ c.loop-e.e c.args.h c.variable_at-variable.result low c.variable_at-variable.ensures c.if-variable-h.false
    ∙ c.loop-e.invariant
