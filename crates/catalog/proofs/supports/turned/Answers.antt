use Rattle.std.proofs.Common.{◌^◌, ◌<◌, ap, sym, get_or, ◌∙◌, arith, ⊎_elim}
use Rattle.std.proofs.lemmas.Bool.{cases_lt}
use Rattle.std.proofs.lemmas.List.{get_or_past}
use Rattle.bits.specs.Bits.{has_bit}
use Rattle.bits.proofs.Bitwise.{has_of_zero, has_past}
use Rattle.catalog.proofs.supports.turned.Goals as goal

pub returns : goal.returns
returns c x y =
    ⊎_elim (λ h. c.loop-y.invariant.done x y (omega arith))
    (λ h.
    let fits : get_or c.args.rows.now x 0 < 2 ^ 64 = c.fits-rows x in
    ap (λ d. has_bit d x) (get_or_past c.loop-y.entry-items y 0 (omega (arith, c.loop-y.invariant.long))) ∙ has_of_zero x ∙ sym (has_past 64 (get_or c.args.rows.now x 0) y fits h))
    (cases_lt y 64)
