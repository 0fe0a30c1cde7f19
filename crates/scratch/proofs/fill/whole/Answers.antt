use Rattle.std.proofs.Common.{ltb, length, sym, ap, ◌∙◌, ⊎_elim, arith}
use Rattle.std.proofs.lemmas.List.{get_or_past}
use Rattle.std.proofs.lemmas.Bool.{cases_lt, le-ltb}
use Rattle.bits.specs.Bits.{has_bit}
use Rattle.bits.proofs.Bitwise.{has_of_zero}
use Rattle.scratch.proofs.fill.whole.Goals as goal

pub returns : goal.returns
returns c i x =
    ⊎_elim (λ h. c.loop-i.invariant i x (omega arith))
    (λ h.
    ap (λ d. has_bit d x) (get_or_past c.loop-i.domains i 0 (omega arith)) ∙ has_of_zero x
    ∙ sym (le-ltb x 0 (omega arith)) ∙ ap (λ s. ltb x s) (sym (get_or_past c.args.sizes.now i 0 h)))
    (cases_lt i (length c.args.sizes.now))
