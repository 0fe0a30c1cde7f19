-- Zeros fit any width, and equal lists are equally long.
use Rattle.std.specs.Prelude.{◌≡◌, ℕ, ◌^◌, ◌<◌, [], length, replicate, slice_index, slice_index_or}
use Rattle.std.proofs.Common.{zero, suc, refl, arith}
use Rattle.std.proofs.lemmas.Bool.{ltb-true}
use Rattle.std.proofs.lemmas.List.{length-replicate}

pub zeros_wide : (n k : ℕ) → slice_index (replicate n 0) k < 2 ^ 64
zeros_wide zero k = ltb-true 0 (2 ^ 64) refl
zeros_wide (suc n) zero = ltb-true 0 (2 ^ 64) refl
zeros_wide (suc n) (suc k) = zeros_wide n k

-- each of n lists of m times x
pub each_long : {T : Type 0} (n m : ℕ) (x : T) (k : ℕ) → k < n → length (slice_index_or (replicate n (replicate m x)) k []) ≡ m
each_long zero m x k h = absurd (omega arith)
each_long (suc n) m x zero h = length-replicate m x
each_long (suc n) m x (suc k) h = each_long n m x k (omega arith)
