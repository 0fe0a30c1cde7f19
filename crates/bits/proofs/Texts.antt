-- The text of a set, one value more.
use Rattle.std.proofs.Common.{◌≡◌, ℕ, ◌+◌, true, false, List, ◌++◌, codes, decimal, sym, ap, ◌∙◌, add-one}
use Rattle.std.proofs.lemmas.List.{append-nil}
use Rattle.bits.specs.Bits.{has_bit}
use Rattle.bits.specs.Text.{value_in, values_below}

below_more : (d x : ℕ) (t : List ℕ) → value_in d x ≡ t → values_below d x ++ t ≡ values_below d (x + 1)
unfolding values_below
below_more d x t e = ap (λ ys. values_below d x ++ ys) (sym e) ∙ ap (values_below d) (sym (add-one x))

pub value_shown : (d x : ℕ) → has_bit d x ≡ true → values_below d x ++ (codes " " ++ decimal x) ≡ values_below d (x + 1)
value_shown d x h = below_more d x _ (rw h)

pub value_passed : (d x : ℕ) → has_bit d x ≡ false → values_below d x ≡ values_below d (x + 1)
value_passed d x h = sym (append-nil (values_below d x)) ∙ below_more d x _ (rw h)
