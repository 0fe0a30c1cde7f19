-- The generator xorshift64*.
use Rattle.std.specs.Prelude.{ℕ, ◌*◌, ◌/◌, ◌%◌, ◌^◌, if◌then◌else◌, nat_eq}
use Rattle.std.specs.Int.Bits.{bit_xor}

-- the state after a number is drawn: x ^= x >> 12, x ^= x << 25, x ^= x >> 27
abbrev pub right12 : ℕ → ℕ
right12 x = bit_xor x (x / 2 ^ 12)

abbrev pub left25 : ℕ → ℕ
left25 x = bit_xor x (x * 2 ^ 25 % 2 ^ 64)

abbrev pub right27 : ℕ → ℕ
right27 x = bit_xor x (x / 2 ^ 27)

abbrev pub shifted : ℕ → ℕ
shifted x = right27 (left25 (right12 x))

-- by which the state is multiplied to give the number
abbrev pub FACTOR : ℕ
FACTOR = 0x2545_f491_4f6c_dd1d

-- the number that is drawn at a state, and one below n from it
abbrev pub number_at : ℕ → ℕ
number_at x = shifted x * FACTOR % 2 ^ 64

abbrev pub below_at : ℕ → ℕ → ℕ
below_at x n = if nat_eq n 0 then 0 else number_at x / 2 ^ 16 % n
