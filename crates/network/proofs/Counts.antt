-- How many values are in one family and not in another inside it.
use Rattle.std.proofs.Common.{◌≡◌, ℕ, zero, suc, ◌+◌, ◌/◌, ◌%◌, ◌^◌, ◌<◌, Bool, true, false, cond, not, ◌&&◌, eqb, nat_le, List, [], ◌∷◌, length, get_or, sym, refl, ap, ◌∙◌, ap₂, pow-suc, arith}
use Rattle.std.proofs.lemmas.Bool.{le-leb, lt-leb}
use lib.Count.{ones, ones_step}
use Rattle.arcs.specs.Family.{Family, Inside}
use Rattle.bits.specs.Bits.{bit_at, has_bit, domains_of}
use Rattle.bits.proofs.Bitwise.{bit_zero, bit_suc, bit_low}
use Rattle.domains.specs.declared.Constraints.{Constraints}
use Rattle.domains.specs.declared.Domains.{Domains}
use Rattle.domains.specs.Model.{shown, standing, total, within}
use Rattle.domains.specs.Sound.{Rose}
use Rattle.network.specs.Counting.{passing, values_in, less, count_less}

passing_first : (f : ℕ → Bool) (n : ℕ) → passing f (suc n) ≡ cond (f 0) 1 0 + passing (λ x. f (suc x)) n
unfolding passing
passing_first f zero = omega arith
passing_first f (suc n) = omega (arith, passing_first f n)

passing_same : (f g : ℕ → Bool) (n : ℕ) → ((x : ℕ) → f x ≡ g x) → passing f n ≡ passing g n
unfolding passing
passing_same f g zero e = refl
passing_same f g (suc n) e = ap₂ (λ a b. a + cond b 1 0) (passing_same f g n e) (e n)

values_same : (f g : Family) (n : ℕ) → ((i x : ℕ) → f i x ≡ g i x) → values_in f n ≡ values_in g n
unfolding values_in
values_same f g zero e = refl
values_same f g (suc n) e = ap₂ (λ a b. a + b) (values_same f g n e) (passing_same (f n) (g n) 64 (e n))

values_first : (f : Family) (n : ℕ) → values_in f (suc n) ≡ passing (f 0) 64 + values_in (λ i. f (suc i)) n
unfolding values_in
values_first f zero = omega arith
values_first f (suc n) = omega (arith, values_first f n)

-- a bit counts as much as it is
bit_one : (n : ℕ) → n < 2 → cond (eqb n 1) 1 0 ≡ n
bit_one zero h = refl
bit_one (suc zero) h = refl
bit_one (suc (suc n)) h = absurd (omega arith)

-- the bits of a number below 2 ^ w
pub passing_ones : (w d : ℕ) → d < 2 ^ w → passing (has_bit d) w ≡ ones d
unfolding passing ones
passing_ones zero d h = let z : d ≡ 0 = omega arith in rw z
passing_ones (suc w) d h =
    let low : cond (has_bit d 0) 1 0 ≡ d % 2 = bit_one (bit_at d 0) (bit_low d 0) ∙ bit_zero d in
    let high : passing (λ x. has_bit d (suc x)) w ≡ ones (d / 2) =
    passing_same (λ x. has_bit d (suc x)) (has_bit (d / 2)) w (λ x. ap (λ b. eqb b 1) (bit_suc d x)) ∙ passing_ones w (d / 2) (omega (arith, pow-suc 2 w))
    in
    passing_first (has_bit d) w ∙ ap₂ (λ a b. a + b) low high ∙ sym (ones_step d)

-- the values of a list of sets
pub values_total : (ds : List ℕ) → ((i : ℕ) → get_or ds i 0 < 2 ^ 64) → values_in (domains_of ds) (length ds) ≡ total ds
unfolding values_in
values_total [] h = refl
values_total (d ∷ ds) h =
    values_first (domains_of (d ∷ ds)) (length ds) ∙ ap₂ (λ a b. a + b) (passing_ones 64 d (h 0)) (values_total ds (λ i. h (suc i)))

-- of two tests, the second inside the first
split_one : (a b : Bool) → (b ≡ true → a ≡ true) → cond (a && not b) 1 0 + cond b 1 0 ≡ cond a 1 0
split_one true true h = refl
split_one true false h = refl
split_one false true h = sym (ap (λ t. cond t 1 0) (h refl))
split_one false false h = refl

passing-less : (f g : ℕ → Bool) (n : ℕ) → ((x : ℕ) → g x ≡ true → f x ≡ true) → passing (λ x. f x && not (g x)) n + passing g n ≡ passing f n
unfolding passing
passing-less f g zero h = refl
passing-less f g (suc n) h = omega (arith, passing-less f g n h, split_one (f n) (g n) (h n))

pub values_less : (f g : Family) (n : ℕ) → Inside f g → values_in (less f g) n + values_in g n ≡ values_in f n
unfolding values_in
values_less f g zero h = refl
values_less f g (suc n) h = omega (arith, values_less f g n h, passing-less (f n) (g n) 64 (h n))

-- the values of one list of 32 sets that are not in another inside it
pub count_is_less : (ds es : List ℕ) (n : ℕ) → length ds ≡ 32 → length es ≡ 32 → ((i : ℕ) → get_or ds i 0 < 2 ^ 64) → ((i : ℕ) → get_or es i 0 < 2 ^ 64)
    → Inside (domains_of ds) (domains_of es) → total ds ≡ total es + n → n ≡ count_less (domains_of ds) (domains_of es)
count_is_less ds es n ld le wd we inside e =
    let a : values_in (domains_of ds) 32 ≡ total ds = ap (values_in (domains_of ds)) (sym ld) ∙ values_total ds wd in
    let b : values_in (domains_of es) 32 ≡ total es = ap (values_in (domains_of es)) (sym le) ∙ values_total es we in
    omega (arith, a, b, values_less (domains_of ds) (domains_of es) 32 inside)

-- what was shown in between and is not shown after is just what is out with a time from the clock before on
went_again : (c : Constraints) (d d' : Domains) (r : Rose c d d') (i x : ℕ) → less (shown r.between) (shown d') i x ≡ (within c i x && (not (shown d' i x) && nat_le d.clock ((standing d').time i x)))
went_again c d d' r i x =
    case (shown r.between i x) (shown d' i x) (within c i x) (nat_le d.clock ((standing d').time i x)) (r.inside i x)
    (λ a g. le-leb d.clock ((standing d').time i x) (r.gone i x a g)) (λ w a. lt-leb d.clock ((standing d').time i x) (r.stayed i x w a))
  where
    case : (a g w l : Bool) → (a ≡ true → w ≡ true) → (a ≡ true → g ≡ false → l ≡ true) → (w ≡ true → a ≡ false → l ≡ false) → (a && not g) ≡ (w && (not g && l))
    case false true false l f h k = refl
    case false true true l f h k = refl
    case false false false l f h k = refl
    case false false true l f h k = sym (k refl refl)
    case true true false l f h k = refl
    case true true true l f h k = refl
    case true false w l f h k = sym (ap₂ (λ u v. u && v) (f refl) (h refl refl))

-- so the clock rose by as many
pub rose_clock : (c : Constraints) (d d' : Domains) → Rose c d d' → d'.clock ≡ d.clock + values_in (λ i x. within c i x && (not (shown d' i x) && nat_le d.clock ((standing d').time i x))) 32
rose_clock c d d' r =
    let a : values_in (shown r.between) 32 ≡ total r.between.sets = ap (values_in (shown r.between)) (sym r.between.sets_long) ∙ values_total r.between.sets r.between.wide in
    let b : values_in (shown d') 32 ≡ total d'.sets = ap (values_in (shown d')) (sym d'.sets_long) ∙ values_total d'.sets d'.wide in
    let same : values_in (less (shown r.between) (shown d')) 32 ≡ values_in (λ i x. within c i x && (not (shown d' i x) && nat_le d.clock ((standing d').time i x))) 32 =
    ap (λ f. values_in f 32) (λ k i x. went_again c d d' r i x k)
    in
    omega (arith, a, b, same, r.spent, values_less (shown r.between) (shown d') 32 r.fewer)
