use Rattle.std.proofs.Common.{arith}
use Rattle.sheet_catalog.proofs.Known.{few}
use Rattle.sheet_catalog.proofs.variables.variable_at.Goals as goal

pub overflow_mul-start : goal.overflow_mul-start
overflow_mul-start c = omega (arith, few c.args.sheet.now, c.requires)

pub overflow_add-start : goal.overflow_add-start
overflow_add-start c = omega (arith, few c.args.sheet.now, c.requires)

pub overflow_add-start-2 : goal.overflow_add-start-2
overflow_add-start-2 c = omega (arith, few c.args.sheet.now, c.requires)

pub overflow_add-start-3 : goal.overflow_add-start-3
overflow_add-start-3 c = omega (arith, few c.args.sheet.now, c.requires)
