use Rattle.std.proofs.Common.{rules}
use Rattle.sheet_catalog.proofs.Terms.{low_product, high_product}
use Rattle.sheet_catalog.proofs.view.term.Goals as goal

pub returns-clause-low : goal.returns-clause-low
returns-clause-low c = let s = low_product c.args.factor c.args.value c.ranges.factor c.ranges.value.fits in search rules

pub returns-clause-high : goal.returns-clause-high
returns-clause-high c = let s = high_product c.args.factor c.args.value c.ranges.factor c.ranges.value.fits in search rules
