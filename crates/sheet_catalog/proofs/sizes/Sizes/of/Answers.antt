use Rattle.sheet_catalog.proofs.Known.{few, good_at}
use Rattle.sheet_catalog.proofs.sizes.Sizes.of.Goals as goal

pub invariant_of-result : goal.invariant_of-result
invariant_of-result c =
    let s = c.args.sheet.now in
    record { wide = c.sizes_in.ensures.wide; few = few s; good = good_at s c.sizes_in.result c.sizes_in.ensures.wide c.sizes_in.ensures.each }
