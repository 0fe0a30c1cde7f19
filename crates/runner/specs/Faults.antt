-- What the faults of a run say: the number of the cause, the byte, and how many came before.
use Rattle.std.specs.Prelude.{ℕ, Some, None, Option}
use Rattle.catalog.specs.Number.{number_of}
use Rattle.sheet_format.specs.Faults as sheet
use Rattle.runner.specs.declared.faults.RunFault.{RunFault}
use Rattle.runner.specs.declared.faults.RunFault.TheVariants.{Sheet, Move, Memory}

-- a refused sheet has the number of its fault, a refused move that of its refusal; want of memory has none
abbrev pub fault_number : RunFault → Option ℕ
fault_number (Sheet f) = Some (sheet.fault_number f)
fault_number (Move f) = Some (number_of f.refusal)
fault_number Memory = None

-- the byte of a refused sheet
abbrev pub fault_byte : RunFault → Option ℕ
fault_byte (Sheet f) = Some (sheet.fault_byte f)
fault_byte (Move f) = None
fault_byte Memory = None

-- records of the sheet that came before, or moves
abbrev pub fault_before : RunFault → Option ℕ
fault_before (Sheet f) = Some (sheet.fault_records f)
fault_before (Move f) = Some f.before
fault_before Memory = None
