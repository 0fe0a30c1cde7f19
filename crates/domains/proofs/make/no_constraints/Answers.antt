use Rattle.domains.specs.Make.{no_constraints}
use Rattle.domains.proofs.make.no_constraints.Goals as goal

pub invariant_of-result : goal.invariant_of-result
invariant_of-result c =
    record {
      sizes_long = no_constraints.sizes_long;
      present_long = no_constraints.present_long;
      ends_long = no_constraints.ends_long;
      rows_long = no_constraints.rows_long;
      each_row_long = no_constraints.each_row_long;
    }
