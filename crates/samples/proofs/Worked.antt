-- That the samples hold.
use Rattle.std.proofs.Common.{◌≡◌, ℕ, ◌&&◌, ltb, leb, [], ◌∷◌, refl, ◌∙◌, arith, lit<}
use Rattle.std.proofs.lemmas.Bool.Decides.{nat_tests}
use Rattle.bits.proofs.Bitwise.{has_mask}
use Rattle.catalog.specs.Table.{all_below}
use Rattle.samples.specs.Small.{ordered, crossed}
use Rattle.samples.specs.Samples.{Samples}
use Rattle.samples.proofs.Chains.{accepted, sizes, first, both, second}
use Rattle.samples.proofs.Settled.{largest_under}

low_six : (y : ℕ) → ltb y 6 ≡ (ltb y 64 && leb y 5)
low_six y = grind (arith, nat_tests)

pub samples : Samples
unfolding all_below
samples = record {
  chain_accepted = accepted;
  chain_sizes = sizes;
  chain_first = first;
  chain_both = both;
  chain_second = second;
  nothing_out = largest_under ordered (3 ∷ 3 ∷ []) (0 ∷ 1 ∷ []) ((0 ∷ 1 ∷ 2 ∷ []) ∷ (0 ∷ 1 ∷ 2 ∷ []) ∷ []) [] refl;
  both_empty = largest_under crossed (2 ∷ 2 ∷ []) (0 ∷ 1 ∷ []) ([] ∷ [] ∷ []) ((1, 1, 1) ∷ (1, 0, 0) ∷ (0, 0, 1) ∷ (0, 1, 0) ∷ []) refl;
  names_zero = record { below = lit< tt; empty = λ x. refl; before = λ j h. absurd (omega arith) };
  third_kept = largest_under crossed (2 ∷ 2 ∷ 3 ∷ []) (0 ∷ 1 ∷ []) ([] ∷ [] ∷ (0 ∷ 1 ∷ 2 ∷ []) ∷ []) ((1, 1, 1) ∷ (1, 0, 0) ∷ (0, 0, 1) ∷ (0, 1, 0) ∷ []) refl;
  still_zero = record { below = lit< tt; empty = λ x. refl; before = λ j h. absurd (omega arith) };
  house_zero = record { fits = lit< tt; bits = λ y. has_mask 6 63 y refl ∙ low_six y };
  house_one = λ y. grind (arith, nat_tests);
  house_three = λ y. grind (arith, nat_tests);
  house_three_last = λ y. grind (arith, nat_tests);
}
