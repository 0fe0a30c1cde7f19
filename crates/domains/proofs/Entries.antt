-- One entry of an array is written: what is read then, and how many values the sets have.
use Rattle.std.proofs.Common.{◌≡◌, ℕ, zero, suc, ◌+◌, ◌*◌, ◌^◌, ◌<◌, ◌≤◌, true, List, [], ◌∷◌, ◌++◌, length, get_or, take, set, replicate, sym, ap, ◌∙◌, subst, ⊎_elim, arith}
use lib.Count.{ones, ones-le}
use Rattle.std.proofs.lemmas.List.{get_or-set_same, get_or-set_other, get_or-replicate, get_or_past, length-replicate, take_more}
use Rattle.std.proofs.lemmas.Bool.{cases_lt, cases_eq, eq-eqb, eqb-true}
use Rattle.bits.specs.Bits.{bit_at, has_bit, domains_of}
use Rattle.bits.proofs.Bitwise.{bit_cases}
use Rattle.bits.proofs.Edits.{ones_inside}
use Rattle.domains.specs.declared.Justification.{Justification}
use Rattle.domains.specs.Model.{entry, no_justification, total}

pub entry_same : (why : List (List Justification)) (i x : ℕ) (j : Justification) → i < length why → x < length (get_or why i []) → entry (set why i (set (get_or why i []) x j)) i x ≡ j
entry_same why i x j l h =
    ap (λ js. get_or js x no_justification) (get_or-set_same why i (set (get_or why i []) x j) [] l) ∙ get_or-set_same (get_or why i []) x j no_justification h

pub entry_other : (why : List (List Justification)) (i x : ℕ) (j : Justification) (k y : ℕ) → i < length why → ((i ≡ k) × (x ≡ y) → ⊥) → entry (set why i (set (get_or why i []) x j)) k y ≡ entry why k y
entry_other why i x j k y l ne =
    let new : List (List Justification) = set why i (set (get_or why i []) x j) in
    ⊎_elim
    (λ e. subst (λ m. entry new m y ≡ entry why m y) (sym e)
    (ap (λ js. get_or js y no_justification) (get_or-set_same why i (set (get_or why i []) x j) [] l)
    ∙ get_or-set_other (get_or why i []) x y j no_justification (λ q. ne (sym e, sym q))))
    (λ other. ap (λ js. get_or js y no_justification) (get_or-set_other why i k (set (get_or why i []) x j) [] other))
    (cases_eq k i)

-- where each of n lists is as long as the new one, each of them is after it is put in
pub each_set : {T : Type 0} (xss : List (List T)) (i : ℕ) (xs : List T) (n m : ℕ) → length xss ≡ n → length xs ≡ m → ((k : ℕ) → k < n → length (get_or xss k []) ≡ m) → (k : ℕ) → k < n → length (get_or (set xss i xs) k []) ≡ m
each_set xss i xs n m long here each k h =
    ⊎_elim
    (λ e. subst (λ j. length (get_or (set xss i xs) j []) ≡ m) (sym e) (ap length (get_or-set_same xss i xs [] (omega arith)) ∙ here))
    (λ ne. ap length (get_or-set_other xss i k xs [] ne) ∙ each k h)
    (cases_eq k i)

-- a set in the place of another
pub total-set : (ds : List ℕ) (i d : ℕ) → i < length ds → total (set ds i d) + ones (get_or ds i 0) ≡ total ds + ones d
total-set [] i d h = absurd (omega arith)
total-set (e ∷ ds) zero d h = omega arith
total-set (e ∷ ds) (suc i) d h = omega (arith, total-set ds i d (omega arith))

-- at most 64 values in each set
pub total_few : (ds : List ℕ) → ((i : ℕ) → get_or ds i 0 < 2 ^ 64) → total ds ≤ 64 * length ds
total_few [] h = omega arith
total_few (d ∷ ds) h = omega (arith, ones-le 64 d (h 0), total_few ds (λ i. h (suc i)))

total-append : (xs ys : List ℕ) → total (xs ++ ys) ≡ total xs + total ys
total-append [] ys = omega arith
total-append (x ∷ xs) ys = omega (arith, total-append xs ys)

pub total-take : (ds : List ℕ) (i : ℕ) → i < length ds → total (take (i + 1) ds) ≡ total (take i ds) + ones (get_or ds i 0)
total-take ds i h =
    ap total (take_more ds i 0 h) ∙ total-append (take i ds) (get_or ds i 0 ∷ []) ∙ omega arith

-- sets inside others have no more values
bit_inside : (a b x : ℕ) → (has_bit a x ≡ true → has_bit b x ≡ true) → bit_at a x ≤ bit_at b x
bit_inside a b x h =
    ⊎_elim (λ z. omega arith)
    (λ e. omega (arith, eqb-true (bit_at b x) 1 (h (eq-eqb (bit_at a x) 1 e))))
    (bit_cases a x)

pub total_inside : (us bs : List ℕ) → length us ≡ length bs → ((i : ℕ) → get_or us i 0 < 2 ^ 64) → ((i : ℕ) → get_or bs i 0 < 2 ^ 64) → ((i x : ℕ) → domains_of us i x ≡ true → domains_of bs i x ≡ true) → total us ≤ total bs
total_inside [] bs e wa wb h = omega arith
total_inside (a ∷ us) [] e wa wb h = absurd (omega arith)
total_inside (a ∷ us) (b ∷ bs) e wa wb h =
    let f : length us ≡ length bs = omega arith in
    let one : ones a ≤ ones b = ones_inside 64 a b (wa 0) (wb 0) (λ x. bit_inside a b x (h 0 x)) in
    let rest : total us ≤ total bs = total_inside us bs f (λ i. wa (suc i)) (λ i. wb (suc i)) (λ i x. h (suc i) x) in
    omega arith

-- zeros
pub zero_at : (n k : ℕ) → get_or {A = ℕ} (replicate n 0) k 0 ≡ 0
zero_at n k =
    ⊎_elim (λ l. get_or-replicate n k 0 0 l) (λ g. get_or_past (replicate n 0) k 0 (omega (arith, length-replicate {A = ℕ} n 0))) (cases_lt k n)

pub zero_row : (n m k x : ℕ) → get_or {A = ℕ} (get_or (replicate n (replicate m 0)) k []) x 0 ≡ 0
zero_row n m k x =
    ⊎_elim (λ l. ap (λ xs. get_or xs x 0) (get_or-replicate n k (replicate m 0) [] l) ∙ zero_at m x)
    (λ g. ap (λ xs. get_or xs x 0) (get_or_past (replicate n (replicate m 0)) k [] (omega (arith, length-replicate n (replicate {A = ℕ} m 0))))) (cases_lt k n)
