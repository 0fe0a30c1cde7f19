use Rattle.sheet_catalog.proofs.Through.{few_at, counted_at}
use Rattle.sheet_catalog.proofs.SheetCatalog.of.Goals as goal

pub invariant_of-result : goal.invariant_of-result
invariant_of-result c =
    let s = c.args.sheet.now in
    record { low = s.low; counted = counted_at s; few = few_at s; wide = c.starts_of.ensures.wide; begun = c.starts_of.ensures.begun }
