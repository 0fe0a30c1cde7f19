-- The law of sheets, in the format's own words: bytes are accepted exactly when they are the encoding of a valid sheet, and there is one such;
-- bytes that are refused are so at the end of the longest beginning of a sheet, for the first rule that is broken there, or after a whole sheet that more
-- bytes follow, or since there are too many. It leaves no other answer.
use Rattle.std.specs.Prelude.{◌≡◌, ℕ, ◌+◌, ◌*◌, ◌<◌, ◌≤◌, List, [], ◌++◌, map, length, Ok, Err, Result, ◌≢◌}
use Rattle.std.specs.List.{flat_map}
use Rattle.sheet_format.specs.declared.found.Summary.{Summary}
use Rattle.sheet_format.specs.declared.faults.SheetFault.{SheetFault}
use Rattle.sheet_format.specs.declared.faults.Cause.TheVariants.{TooLong, Trailing}
use Rattle.sheet_format.specs.Faults.{cause_number, fault_number, fault_byte, fault_records}
use Rattle.sheet_format.specs.Value.{Sheet}
use Rattle.sheet_format.specs.Encoding.{Valid, records_of, encode, framed, constraint_record}
use Rattle.sheet_format.specs.Decoding.{decode}
use Rattle.sheet_format.specs.Beginnings.{Begun, Keeps, records_begun, bytes_begun}
use Rattle.sheet_format.specs.Rules.{Wrong}

-- how much of everything a sheet has, and where in its bytes the constraints and the moves begin
abbrev pub summary_of : Sheet → Summary
summary_of s =
    record {
      variables = length s.variables;
      constraints = length s.constraints;
      moves = length s.moves;
      constraints_at = 8 + 8 * length s.variables;
      moves_at = 8 + 8 * length s.variables + length (flat_map framed (map constraint_record s.constraints));
    }

-- the bytes are the encoding of a valid sheet, of that one only, and the summary is of it
pub record Encodes (bytes : List ℕ) (found : Summary) : Type 0 where
  pub valid : Valid (decode bytes)
  pub same : encode (decode bytes) ≡ bytes
  pub alone : (s : Sheet) → Valid s → encode s ≡ bytes → s ≡ decode bytes
  pub sums_up : found ≡ summary_of (decode bytes)

-- The bytes before a byte are the longest beginning of a sheet that these bytes have, with so many records, and what follows is wrong.
pub record GoesWrong (bytes : List ℕ) (number byte records : ℕ) : Type 0 where
  pub short : length bytes ≤ 65535
  pub begun : Begun
  pub keeps : Keeps begun
  pub rest : List ℕ
  pub same : bytes ≡ bytes_begun begun ++ rest
  pub byte_is : byte ≡ length (bytes_begun begun)
  pub records_are : records ≡ length (records_begun begun)
  pub longest : (c : Begun) → Keeps c → (after : List ℕ) → bytes ≡ bytes_begun c ++ after → length (records_begun c) ≤ records
  pub wrong : Wrong number begun rest

-- The bytes before a byte are a whole sheet, with so many records, the end among them, and more bytes follow.
pub record Trails (bytes : List ℕ) (byte records : ℕ) : Type 0 where
  pub short : length bytes ≤ 65535
  pub sheet : Sheet
  pub valid : Valid sheet
  pub more : List ℕ
  pub some : more ≢ []
  pub same : bytes ≡ encode sheet ++ more
  pub byte_is : byte ≡ length (encode sheet)
  pub records_are : records ≡ length (records_of sheet)

-- a fault has this number, byte and count
pub record Says (fault : SheetFault) (number byte records : ℕ) : Type 0 where
  pub number_is : number ≡ fault_number fault
  pub byte_is : byte ≡ fault_byte fault
  pub records_are : records ≡ fault_records fault

-- Why bytes are refused, by the number, the byte and the count of the fault. The limit of 65,535 bytes comes before all else.
pub data Refused (bytes : List ℕ) (number byte records : ℕ) : Type 0 where
  too_long : number ≡ cause_number TooLong → 65535 < length bytes → byte ≡ 65535 → records ≡ 0 → Refused bytes number byte records
  trails : number ≡ cause_number Trailing → Trails bytes byte records → Refused bytes number byte records
  goes_wrong : GoesWrong bytes number byte records → Refused bytes number byte records

-- no valid sheet has these bytes; the fault says why, and no other number, byte or count would
pub record Faulty (bytes : List ℕ) (fault : SheetFault) : Type 0 where
  pub no_sheet : (s : Sheet) → Valid s → encode s ≢ bytes
  pub why : Refused bytes (fault_number fault) (fault_byte fault) (fault_records fault)
  pub alone : (number byte records : ℕ) → Refused bytes number byte records → Says fault number byte records

abbrev pub Law : List ℕ → Result Summary SheetFault → Type 0
Law bytes (Ok found) = Encodes bytes found
Law bytes (Err fault) = Faulty bytes fault
