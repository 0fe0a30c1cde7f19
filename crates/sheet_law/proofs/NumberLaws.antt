-- Numbers of two, four and eight bytes, written and read back.
use Rattle.std.proofs.Common.{◌≡◌, ℕ, ◌+◌, ◌*◌, ◌/◌, ◌%◌, ◌^◌, ◌<◌, ◌≤◌, List, [], ◌∷◌, ◌++◌, length, get_or, drop, sym, ap, ◌∙◌, arith}
use Rattle.std.specs.List.{AllByRecursion}
use Rattle.std.proofs.ByRecursion.{All-get_or}
use Rattle.std.proofs.lemmas.List.{drop_more, get_or-drop}
use Rattle.sheet_format.specs.Numbers.{two, four, eight, number2, number4, number8}

-- read back what was written
pub two_back : (n : ℕ) (rest : List ℕ) → n < 65536 → number2 (two n ++ rest) 0 ≡ n
two_back n rest h = omega arith

pub four_back : (n : ℕ) (rest : List ℕ) → n < 4294967296 → number4 (four n ++ rest) 0 ≡ n
four_back n rest h =
    let low = two_back (n % 65536) [] (omega arith) in
    let high = two_back (n / 65536) [] (omega arith) in
    let whole : n % 65536 + n / 65536 * 65536 ≡ n = omega arith in
    ap (λ x. x + number2 (two (n / 65536)) 0 * 65536) low ∙ ap (λ x. n % 65536 + x * 65536) high ∙ whole

pub eight_back : (n : ℕ) (rest : List ℕ) → n < 2 ^ 64 → number8 (eight n ++ rest) 0 ≡ n
eight_back n rest h =
    let low = four_back (n % 4294967296) [] (omega arith) in
    let high = four_back (n / 4294967296) [] (omega arith) in
    let whole : n % 4294967296 + n / 4294967296 * 4294967296 ≡ n = omega arith in
    ap (λ x. x + number4 (four (n / 4294967296)) 0 * 4294967296) low ∙ ap (λ x. n % 4294967296 + x * 4294967296) high ∙ whole

-- write out what was read
two_out : (a b : ℕ) → a < 256 → b < 256 → two (a + b * 256) ≡ a ∷ (b ∷ [])
two_out a b h k =
    let low : (a + b * 256) % 256 ≡ a = omega arith in
    let high : (a + b * 256) / 256 % 256 ≡ b = omega arith in
    ap (λ x. x ∷ ((a + b * 256) / 256 % 256 ∷ [])) low ∙ ap (λ x. a ∷ (x ∷ [])) high

four_out : (a b c d : ℕ) → a < 256 → b < 256 → c < 256 → d < 256 → four ((a + b * 256) + (c + d * 256) * 65536) ≡ a ∷ (b ∷ (c ∷ (d ∷ [])))
four_out a b c d ha hb hc hd =
    let l : ℕ = a + b * 256 in
    let h : ℕ = c + d * 256 in
    let low : ((a + b * 256) + (c + d * 256) * 65536) % 65536 ≡ a + b * 256 = omega arith in
    let high : ((a + b * 256) + (c + d * 256) * 65536) / 65536 ≡ c + d * 256 = omega arith in
    ap (λ x. two x ++ two ((l + h * 65536) / 65536)) low
    ∙ ap (λ x. two l ++ two x) high
    ∙ ap (λ ys. ys ++ two h) (two_out a b ha hb)
    ∙ ap (λ ys. a ∷ (b ∷ ys)) (two_out c d hc hd)

eight_out : (l h : ℕ) → l < 4294967296 → eight (l + h * 4294967296) ≡ four l ++ four h
eight_out l h k =
    let low : (l + h * 4294967296) % 4294967296 ≡ l = omega arith in
    let high : (l + h * 4294967296) / 4294967296 ≡ h = omega arith in
    ap (λ x. four x ++ four ((l + h * 4294967296) / 4294967296)) low ∙ ap (λ x. four l ++ four x) high

-- a number further on
pub number2-drop : (xs : List ℕ) (n k : ℕ) → number2 (drop n xs) k ≡ number2 xs (n + k)
number2-drop xs n k =
    ap (λ a. a + get_or (drop n xs) (k + 1) 0 * 256) (get_or-drop n xs k 0)
    ∙ ap (λ b. get_or xs (n + k) 0 + b * 256) (get_or-drop n xs (k + 1) 0 ∙ ap (λ j. get_or xs j 0) (omega arith))

number4-drop : (xs : List ℕ) (n k : ℕ) → number4 (drop n xs) k ≡ number4 xs (n + k)
number4-drop xs n k =
    ap (λ a. a + number2 (drop n xs) (k + 2) * 65536) (number2-drop xs n k)
    ∙ ap (λ b. number2 xs (n + k) + b * 65536) (number2-drop xs n (k + 2) ∙ ap (number2 xs) (omega arith))

pub number8-drop : (xs : List ℕ) (n k : ℕ) → number8 (drop n xs) k ≡ number8 xs (n + k)
number8-drop xs n k =
    ap (λ a. a + number4 (drop n xs) (k + 4) * 4294967296) (number4-drop xs n k)
    ∙ ap (λ b. number4 xs (n + k) + b * 4294967296) (number4-drop xs n (k + 4) ∙ ap (number4 xs) (omega arith))

-- bytes are below 256
abbrev pub Bytes : List ℕ → Type 0
Bytes xs = AllByRecursion (λ b. b < 256) xs

byte_at : (xs : List ℕ) (k : ℕ) → Bytes xs → k < length xs → get_or xs k 0 < 256
byte_at xs k b l = All-get_or (λ x. x < 256) xs k 0 l b

-- two bytes, and four, from a place on, are those of the number that stands there
pub word_at : (xs : List ℕ) (k : ℕ) → Bytes xs → k + 1 < length xs → (drop k xs ≡ two (number2 xs k) ++ drop (k + 1 + 1) xs) × (number2 xs k < 65536)
word_at xs k b l =
    let h0 : get_or xs k 0 < 256 = byte_at xs k b (omega arith) in
    let h1 : get_or xs (k + 1) 0 < 256 = byte_at xs (k + 1) b l in (
      drop_more xs k 0 (omega arith)
          ∙ ap (λ ys. get_or xs k 0 ∷ ys) (drop_more xs (k + 1) 0 l)
          ∙ ap (λ ys. ys ++ drop (k + 1 + 1) xs) (sym (two_out (get_or xs k 0) (get_or xs (k + 1) 0) h0 h1)),
      omega arith,
    )

pub long_at : (xs : List ℕ) (k : ℕ) → Bytes xs → k + 2 + 1 < length xs → (drop k xs ≡ four (number4 xs k) ++ drop (k + 2 + 1 + 1) xs) × (number4 xs k < 2 ^ 32)
long_at xs k b l =
    let h0 : get_or xs k 0 < 256 = byte_at xs k b (omega arith) in
    let h1 : get_or xs (k + 1) 0 < 256 = byte_at xs (k + 1) b (omega arith) in
    let h2 : get_or xs (k + 2) 0 < 256 = byte_at xs (k + 2) b (omega arith) in
    let h3 : get_or xs (k + 2 + 1) 0 < 256 = byte_at xs (k + 2 + 1) b l in
    let next : k + 1 + 1 ≡ k + 2 = omega arith in (
      drop_more xs k 0 (omega arith)
          ∙ ap (λ ys. get_or xs k 0 ∷ ys) (drop_more xs (k + 1) 0 (omega arith))
          ∙ ap (λ n. get_or xs k 0 ∷ (get_or xs (k + 1) 0 ∷ drop n xs)) next
          ∙ ap (λ ys. get_or xs k 0 ∷ (get_or xs (k + 1) 0 ∷ ys)) (drop_more xs (k + 2) 0 (omega arith))
          ∙ ap (λ ys. get_or xs k 0 ∷ (get_or xs (k + 1) 0 ∷ (get_or xs (k + 2) 0 ∷ ys))) (drop_more xs (k + 2 + 1) 0 l)
          ∙ ap (λ ys. ys ++ drop (k + 2 + 1 + 1) xs) (sym (four_out (get_or xs k 0) (get_or xs (k + 1) 0) (get_or xs (k + 2) 0) (get_or xs (k + 2 + 1) 0) h0 h1 h2 h3)),
      omega arith,
    )

-- and so are eight at the front
pub row_first : (xs : List ℕ) → Bytes xs → 8 ≤ length xs → xs ≡ eight (number8 xs 0) ++ drop 8 xs
row_first xs b l =
    let low = long_at xs 0 b (omega arith) in
    let high = long_at xs 4 b (omega arith) in
    low.0
    ∙ ap (λ ys. four (number4 xs 0) ++ ys) high.0
    ∙ sym (ap (λ ys. ys ++ drop 8 xs) (eight_out (number4 xs 0) (number4 xs 4) low.1))
