-- The numbers of the kinds of records.
use Rattle.std.specs.Prelude.{◌≡◌, ◌≢◌, ℕ, Result, MatchResult}
use Rattle.sheet_format.specs.declared.faults.RecordCause.{RecordCause}
use Rattle.sheet_format.specs.declared.faults.RecordCause.TheVariants.{UnknownKind}
use Rattle.sheet_format.specs.declared.kinds.Kind.{Kind}
use Rattle.sheet_format.specs.declared.kinds.Kind.TheVariants.{Heading, Variable, Sum, Table, Add, Retract, End}

-- the number that stands for a kind
abbrev pub kind_number : Kind → ℕ
kind_number Heading = 1
kind_number Variable = 2
kind_number Sum = 3
kind_number Table = 4
kind_number Add = 5
kind_number Retract = 6
kind_number End = 7

-- the result is the kind of this number, or no kind has it
abbrev pub Decodes : ℕ → Result Kind RecordCause → Type 0
Decodes number r =
    MatchResult r (λ kind. kind_number kind ≡ number) (λ cause. (cause ≡ UnknownKind) × ((kind : Kind) → kind_number kind ≢ number))
