-- Data to begin with.
use Rattle.std.specs.Prelude.{ℕ, Bool, false, List, replicate}
use Rattle.std.proofs.lemmas.List.{length-replicate}
use Rattle.domains.specs.Zeros.{each_long, zeros_wide}
use Rattle.domains.specs.Model.{no_ends, no_justification}
use Rattle.domains.specs.declared.Constraints.{Constraints}
use Rattle.domains.specs.declared.Domains.{Domains}
use Rattle.domains.specs.declared.Ends.{Ends}
use Rattle.domains.specs.declared.Justification.{Justification}

-- no variables, no constraint in, nothing allowed
abbrev pub no_constraints : Constraints
no_constraints =
    record {
      sizes = replicate 32 0;
      present = replicate 128 false;
      ends = replicate 128 no_ends;
      rows = replicate 256 (replicate 64 0);
      sizes_long = length-replicate {A = ℕ} 32 0;
      present_long = length-replicate {A = Bool} 128 false;
      ends_long = length-replicate {A = Ends} 128 no_ends;
      rows_long = length-replicate {A = List ℕ} 256 (replicate 64 0);
      each_row_long = each_long 256 64 0;
    }

-- no value's justification says anything
abbrev pub no_justifications : List (List Justification)
no_justifications = replicate 32 (replicate 64 no_justification)

-- no values, at time 0
abbrev pub no_domains : Domains
no_domains =
    record {
      sets = replicate 32 0;
      why = no_justifications;
      clock = 0;
      sets_long = length-replicate {A = ℕ} 32 0;
      why_long = length-replicate {A = List Justification} 32 (replicate 64 no_justification);
      each_why_long = each_long 32 64 no_justification;
      wide = zeros_wide 32;
    }
