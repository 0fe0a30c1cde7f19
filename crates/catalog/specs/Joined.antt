-- Two catalogs as one: the constraints of the first, then those of the second, and of all these the first 128.
use Rattle.std.specs.Prelude.{◌≡◌, ℕ, ◌+◌, ◌-◌, ◌<◌, min, Bool, true, false, cond, ◌≢◌, nat_lt, refl}
use Rattle.std.proofs.Math.Nat.{min-le_left, min-le_right}
use Rattle.std.proofs.Common.{arith}
use Rattle.std.proofs.lemmas.Bool.{ltb-true, ltb-false, cond_both}
use Rattle.catalog.specs.Meaning.{Meaning, Lawful}

abbrev pub joined : Meaning → Meaning → Meaning
joined a b = record {
  count = min 128 (a.count + b.count);
  left = λ p. cond (nat_lt p a.count) (a.left p) (b.left (p - a.count));
  right = λ p. cond (nat_lt p a.count) (a.right p) (b.right (p - a.count));
  allows = λ p x y. cond (nat_lt p a.count) (a.allows p x y) (b.allows (p - a.count) x y);
}

-- an index that is not of the first catalog is one of the second
past : (a b p : ℕ) → p < min 128 (a + b) → nat_lt p a ≡ false → p - a < b
past a b p h t = omega (arith, ltb-false p a t, min-le_right 128 (a + b))

-- two numbers that the same test picks differ if both ways they do
picked_apart : (t : Bool) (x y x' y' : ℕ) → (t ≡ true → x ≢ x') → (t ≡ false → y ≢ y') → cond t x y ≢ cond t x' y'
picked_apart true x y x' y' f g = f refl
picked_apart false x y x' y' f g = g refl

pub joined_lawful : (a b : Meaning) → Lawful a → Lawful b → Lawful (joined a b)
joined_lawful a b f g = record {
  few = min-le_left 128 (a.count + b.count);
  left_low = λ p h. cond_both (nat_lt p a.count) (a.left p) (b.left (p - a.count)) (λ e. e < 32)
      (λ t. f.left_low p (ltb-true p a.count t)) (λ t. g.left_low (p - a.count) (past a.count b.count p h t));
  right_low = λ p h. cond_both (nat_lt p a.count) (a.right p) (b.right (p - a.count)) (λ e. e < 32)
      (λ t. f.right_low p (ltb-true p a.count t)) (λ t. g.right_low (p - a.count) (past a.count b.count p h t));
  apart = λ p h. picked_apart (nat_lt p a.count) (a.left p) (b.left (p - a.count)) (a.right p) (b.right (p - a.count))
      (λ t. f.apart p (ltb-true p a.count t)) (λ t. g.apart (p - a.count) (past a.count b.count p h t));
}
