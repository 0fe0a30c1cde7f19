-- A domain is empty just when its number is 0.
use Rattle.std.proofs.Common.{◌≡◌, ℕ, ◌^◌, ◌<◌, ◌≤◌, eqb, List, get_or, ap, ◌∙◌, Option, Some, None, MatchOption, arith}
use Rattle.std.proofs.lemmas.Bool.{eq-eqb}
use Rattle.arcs.specs.WipedOut.{Empty, Shown, WipedOut}
use Rattle.bits.specs.Bits.{domains_of, bit_at}
use Rattle.bits.proofs.Bitwise.{some_bit, bit_of_zero}

pub none_in : (ds : List ℕ) (i : ℕ) → get_or ds i 0 ≡ 0 → Empty (domains_of ds) i
none_in ds i e x = ap (λ d. eqb (bit_at d x) 1) e ∙ ap (λ b. eqb b 1) (bit_of_zero x)

pub one_in : (ds : List ℕ) (i : ℕ) → get_or ds i 0 < 2 ^ 64 → 0 < get_or ds i 0 → Shown (domains_of ds) i
one_in ds i h p =
    let s : (x : ℕ) × (x < 64) × (bit_at (get_or ds i 0) x ≡ 1) = some_bit 64 (get_or ds i 0) h p in
    (s.0, eq-eqb (bit_at (get_or ds i 0) s.0) 1 s.2)

-- the first variable whose number is 0 is the wiped-out one
pub wiped_by : (ds : List ℕ) (n : ℕ) (r : Option ℕ) → ((i : ℕ) → get_or ds i 0 < 2 ^ 64)
    → MatchOption r ((k : ℕ) → 0 ≤ k → k < n → get_or ds k 0 ≡ 0 → ⊥) (λ i. (0 ≤ i) × (i < n) × (get_or ds i 0 ≡ 0) × ((k : ℕ) → 0 ≤ k → k < i → get_or ds k 0 ≡ 0 → ⊥))
    → WipedOut (domains_of ds) n r
wiped_by ds n None low h = λ j l. one_in ds j (low j) (omega (arith, h j (omega arith) l))
wiped_by ds n (Some i) low h =
    record {
      below = h.1;
      empty = none_in ds i h.2;
      before = λ j l. one_in ds j (low j) (omega (arith, h.3 j (omega arith) l));
    }
