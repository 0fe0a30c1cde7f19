use Rattle.std.proofs.Common.{◌≡◌, ltb, get_or, ap, sym, ◌∙◌, arith, rules, ⊎_elim}
use lib.Bits.{bit_and}
use Rattle.std.proofs.lemmas.Bool.{cases_lt}
use Rattle.std.proofs.lemmas.List.{get_or_past}
use Rattle.bits.specs.Bits.{has_bit}
use Rattle.bits.proofs.Bitwise.{has_of_zero}
use Rattle.catalog.proofs.Columns.{alone_meets}
use Rattle.catalog.proofs.supports.column.Goals as goal

pub returns : goal.returns
returns c x =
    ⊎_elim (λ h. c.loop-x.invariant.done x (omega arith))
    (λ h. c.loop-x.invariant.later x (omega arith) ∙ sym (ap (λ d. has_bit d c.args.y) (get_or_past c.args.rows.now x 0 (omega arith)) ∙ has_of_zero c.args.y))
    (cases_lt x 64)

pub loop-x-preserved : goal.loop-x-preserved
loop-x-preserved c =
    let row = get_or c.args.rows.now c.loop-x.x 0 in
    let m : ltb 0 (bit_and row c.with-only.result) ≡ has_bit row c.args.y = alone_meets row c.with-only.result c.args.y (search rules) c.with-only.ensures in
    search rules
