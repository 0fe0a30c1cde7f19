use Rattle.domains.specs.Zeros.{each_long}
use Rattle.domains.proofs.make.no_justifications.Goals as goal

pub returns-clause-each_long : goal.returns-clause-each_long
returns-clause-each_long c = each_long 32 64 _
