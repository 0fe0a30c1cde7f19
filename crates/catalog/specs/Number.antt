-- Each cause of a refusal has a number.
use Rattle.std.specs.Prelude.{ℕ}
use Rattle.catalog.specs.declared.refusal.Refusal.{Refusal}
use Rattle.catalog.specs.declared.refusal.Refusal.TheVariants.{VariableCount, DomainSize, NoSuchConstraint, EndOutside, AlreadyIn, NotIn, ShortBuffer, ClockSpent, NoSuchValue, ShortResult}

abbrev pub number_of : Refusal → ℕ
number_of VariableCount = 1
number_of DomainSize = 2
number_of NoSuchConstraint = 3
number_of EndOutside = 4
number_of AlreadyIn = 5
number_of NotIn = 6
number_of ShortBuffer = 7
number_of ClockSpent = 8
number_of NoSuchValue = 9
number_of ShortResult = 10
