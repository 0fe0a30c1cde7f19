-- What a bounded sum means.
use Rattle.std.specs.Prelude.{Bool, cond, ◌&&◌, ℕ, ◌+◌, ◌-◌, ◌*◌, nat_le}
use Rattle.random.specs.declared.sum.Sum.{Sum}

-- lo ≤ m * x + y ≤ hi, with 63 - y in place of y where it is falling
abbrev pub total_of : Sum → ℕ → ℕ → ℕ
total_of s x y = s.m * x + cond s.falling (63 - y) y

abbrev pub allowed_by : Sum → ℕ → ℕ → Bool
allowed_by s x y = nat_le s.lo (total_of s x y) && nat_le (total_of s x y) s.hi
