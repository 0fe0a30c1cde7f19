-- What is printed of a verdict.
use Rattle.std.specs.Prelude.{ℕ, List, ◌++◌, codes, decimal}
use Rattle.sheet_format.specs.declared.faults.SheetFault.{SheetFault}
use Rattle.sheet_format.specs.declared.found.Summary.{Summary}
use Rattle.sheet_format.specs.Faults.{fault_number, fault_byte}

abbrev pub refusal_line : ℕ → ℕ → List ℕ
refusal_line number byte = codes "sheet " ++ (decimal number ++ (codes " at " ++ decimal byte))

-- a refused sheet
abbrev pub fault_line : SheetFault → List ℕ
fault_line f = refusal_line (fault_number f) (fault_byte f)

-- an accepted sheet
abbrev pub accepted_line : Summary → List ℕ
accepted_line s =
    codes "sheet ok "
    ++ (decimal s.variables
    ++ (codes " variables "
    ++ (decimal s.constraints ++ (codes " constraints " ++ (decimal s.moves ++ codes " moves")))))
