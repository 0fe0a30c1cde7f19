-- The meanings of three small catalogs of two constraints each.
use Rattle.std.specs.Prelude.{ℕ, ◌+◌, Bool, cond, not, ◌&&◌, nat_le, ◌==◌, nat_lt}
use Rattle.std.proofs.Common.{arith, lit<, lit≤}
use Rattle.catalog.specs.Meaning.{Meaning, Lawful}
use Rattle.samples.specs.declared.Sample.{Sample}
use Rattle.samples.specs.declared.Sample.TheVariants.{Chain, Ordered, Crossed}

-- constraint 0 on variables 0 and 1, constraint 1 on 1 and 2, each allowing 1 ≤ y - x ≤ 63
abbrev pub chain : Meaning
chain = record { count = 2; left = λ p. p; right = λ p. p + 1; allows = λ p x y. nat_le (x + 1) y && nat_le y (x + 63) }

-- two constraints on variables 0 and 1
abbrev pub pair : (ℕ → ℕ → Bool) → (ℕ → ℕ → Bool) → Meaning
pair f g = record { count = 2; left = λ _. 0; right = λ _. 1; allows = λ p x y. cond (p == 0) (f x y) (g x y) }

-- x ≤ y, and x ≠ y
abbrev pub ordered : Meaning
ordered = pair (λ x y. nat_le x y) (λ x y. not (x == y))

-- x < y, and x > y
abbrev pub crossed : Meaning
crossed = pair (λ x y. nat_lt x y) (λ x y. nat_lt y x)

abbrev pub meaning_of : Sample → Meaning
meaning_of Chain = chain
meaning_of Ordered = ordered
meaning_of Crossed = crossed

chain_lawful : Lawful chain
chain_lawful = record {
  few = lit≤ tt;
  left_low = λ p h. omega arith;
  right_low = λ p h. omega arith;
  apart = λ p h e. omega arith;
}

pair_lawful : (f g : ℕ → ℕ → Bool) → Lawful (pair f g)
pair_lawful f g = record {
  few = lit≤ tt;
  left_low = λ p h. lit< tt;
  right_low = λ p h. lit< tt;
  apart = λ p h e. omega arith;
}

pub sample_lawful : (s : Sample) → Lawful (meaning_of s)
sample_lawful Chain = chain_lawful
sample_lawful Ordered = pair_lawful (λ x y. nat_le x y) (λ x y. not (x == y))
sample_lawful Crossed = pair_lawful (λ x y. nat_lt x y) (λ x y. nat_lt y x)
