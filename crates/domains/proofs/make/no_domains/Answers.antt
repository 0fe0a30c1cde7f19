use Rattle.domains.specs.Make.{no_domains}
use Rattle.domains.proofs.make.no_domains.Goals as goal

pub invariant_of-result : goal.invariant_of-result
invariant_of-result c =
    record {
      sets_long = no_domains.sets_long;
      why_long = c.no_justifications.ensures.long;
      each_why_long = c.no_justifications.ensures.each_long;
      wide = no_domains.wide;
    }
