-- The numbers of the causes, and what a sheet's fault says.
use Rattle.std.specs.Prelude.{ℕ, Ok, Err, Result}
use Rattle.sheet_format.specs.declared.faults.RecordCause.{RecordCause}
use Rattle.sheet_format.specs.declared.faults.RecordCause.TheVariants.{Missing, BadLength, UnknownKind}
use Rattle.sheet_format.specs.declared.faults.Cause.{Cause}
use Rattle.sheet_format.specs.declared.faults.Cause.TheVariants.{TooLong, OutOfTurn, TooManyConstraints, WrongLength, BadHeading, BadSize, BadHouse, BadEnds, BadSum, BadRow, Trailing}
use Rattle.sheet_format.specs.declared.faults.Counted.{Counted}
use Rattle.sheet_format.specs.declared.faults.SheetFault.{SheetFault}
use Rattle.sheet_format.specs.declared.faults.SheetFault.TheVariants.{Record, Format}

-- no record can be taken off
abbrev pub record_number : RecordCause → ℕ
record_number Missing = 21
record_number BadLength = 22
record_number UnknownKind = 23

-- the format refuses
abbrev pub cause_number : Cause → ℕ
cause_number TooLong = 31
cause_number OutOfTurn = 32
cause_number TooManyConstraints = 33
cause_number WrongLength = 34
cause_number BadHeading = 35
cause_number BadSize = 36
cause_number BadHouse = 37
cause_number BadEnds = 38
cause_number BadSum = 39
cause_number BadRow = 40
cause_number Trailing = 41

abbrev pub fault_number : SheetFault → ℕ
fault_number (Record c) = record_number c.fault.cause
fault_number (Format c) = cause_number c.fault.cause

abbrev pub fault_byte : SheetFault → ℕ
fault_byte (Record c) = c.fault.byte
fault_byte (Format c) = c.fault.byte

abbrev pub fault_records : SheetFault → ℕ
fault_records (Record c) = c.records
fault_records (Format c) = c.records

-- a result whose fault has the count of records added
abbrev pub counted_result : {T F : Type 0} → Result T F → ℕ → Result T (Counted F)
counted_result (Ok x) n = Ok x
counted_result (Err f) n = Err (record { fault = f; records = n })
