use Rattle.std.proofs.Common.{◌≡◌, get_or, rules}
use Rattle.std.proofs.lemmas.Iterator.{first_from_Range}
use Rattle.catalog.proofs.Emptiness.{wiped_by}
use Rattle.catalog.proofs.supports.wiped_out.Goals as goal

pub returns : goal.returns
returns c =
    let ds = c.args.domains.now in
    wiped_by ds c.args.n c.find.result (λ i. (c.type_inv.domains i).fits)
    (first_from_Range _ _ _ c.find.result (λ i. get_or ds i 0 ≡ 0) (λ i. get_or ds i 0 ≡ 0 → ⊥) c.find.ensures.ran
    (λ x q k. search rules) (λ x q k. search rules))
