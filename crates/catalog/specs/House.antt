-- What the house catalog means: four constraints, each by its formula.
use Rattle.std.specs.Prelude.{ℕ, ◌+◌, ◌*◌, ◌<◌, Bool, true, false, cond, ◌&&◌, ◌==◌, ◌≢◌, nat_le}
use Rattle.std.proofs.Common.{arith, lit<, lit≤}
use Rattle.catalog.specs.Meaning.{Meaning, Lawful}

-- one of four, by the index of a constraint
abbrev pub by_index : {X : Type 0} → ℕ → X → X → X → X → X
by_index p a b c d = cond (p == 0) a (cond (p == 1) b (cond (p == 2) c d))

-- x and y lie at most k apart
abbrev pub within : ℕ → ℕ → ℕ → Bool
within k x y = nat_le x (y + k) && nat_le y (x + k)

abbrev pub house : Meaning
house = record {
  count = 4;
  left = λ p. by_index p 0 0 3 3;
  right = λ p. by_index p 1 2 4 5;
  allows = λ p x y. by_index p (nat_le y x) (within 3 x y) (within 8 x y) (nat_le x (2 * y) && nat_le (2 * y) (x + 40));
}

-- what holds of the two of each index holds of the two that an index picks
pub each : (P : ℕ → ℕ → Type 0) (p a b c d a' b' c' d' : ℕ) → P a a' → P b b' → P c c' → P d d'
    → P (by_index p a b c d) (by_index p a' b' c' d')
each P p a b c d a' b' c' d' h i j k = ways (p == 0) (p == 1) (p == 2)
  where
    ways : (t u v : Bool) → P (cond t a (cond u b (cond v c d))) (cond t a' (cond u b' (cond v c' d')))
    ways true u v = h
    ways false true v = i
    ways false false true = j
    ways false false false = k

pub house_lawful : Lawful house
house_lawful = record {
  few = lit≤ tt;
  left_low = λ p h. each (λ e _. e < 32) p 0 0 3 3 1 2 4 5 (lit< tt) (lit< tt) (lit< tt) (lit< tt);
  right_low = λ p h. each (λ _ e. e < 32) p 0 0 3 3 1 2 4 5 (lit< tt) (lit< tt) (lit< tt) (lit< tt);
  apart = λ p h. each (λ a b. a ≢ b) p 0 0 3 3 1 2 4 5 (λ e. omega arith) (λ e. omega arith) (λ e. omega arith) (λ e. omega arith);
}
