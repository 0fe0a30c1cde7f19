-- A catalog with as many constraints as are wanted, up to 128: a ladder, on which the value of each variable lies below that of the next.
use Rattle.std.specs.Prelude.{ℕ, ◌+◌, ◌%◌, min, nat_lt}
use Rattle.std.proofs.Math.Nat.{min-le_left}
use Rattle.std.proofs.Common.{arith}
use Rattle.catalog.specs.Meaning.{Meaning, Lawful}

-- the constraint p: a value of variable p % 31 lies below that of the next variable
abbrev pub ladder : ℕ → Meaning
ladder count = record {
  count = min 128 count;
  left = λ p. p % 31;
  right = λ p. p % 31 + 1;
  allows = λ p x y. nat_lt x y;
}

pub ladder_lawful : (count : ℕ) → Lawful (ladder count)
ladder_lawful count = record {
  few = min-le_left 128 count;
  left_low = λ p h. omega arith;
  right_low = λ p h. omega arith;
  apart = λ p h e. omega arith;
}
