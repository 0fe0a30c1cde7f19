-- One record: its bytes, and what reading them gives.
use Rattle.std.proofs.Common.{◌≡◌, ℕ, ◌+◌, ◌-◌, ◌*◌, ◌<◌, ◌≤◌, Bool, true, false, cond, ◌||◌, eqb, ltb, List, [], ◌∷◌, ◌++◌, map, length, take, drop, Some, None, Option, sym, refl, ap, ◌∙◌, subst, arith}
use Rattle.std.specs.List.{flat_map}
use Rattle.std.proofs.ByRecursion.{All-drop, All-take}
use Rattle.std.proofs.lemmas.List.{length-append, length-drop, length-take, drop-take, drop-drop, take-append-drop, take_at, drop_at}
use Rattle.std.proofs.lemmas.Bool.{ltb-false, or_parts, le-ltb, ne_eqb, cond-false, or_from}
use Rattle.sheet_format.specs.declared.found.Variable.{Variable}
use Rattle.sheet_format.specs.Numbers.{two, number2}
use Rattle.sheet_format.specs.Encoding.{Raw, framed, variable_record}
use Rattle.sheet_format.specs.Reading.{Shown, shown, Reading, taken, broken, taken_if, reading}
use Rattle.sheet_law.proofs.NumberLaws.{two_back, Bytes, word_at}

-- the bytes of a record's body, and those after it, cut from what follows the head
pub body_cut : (xs : List ℕ) (n : ℕ) → 4 ≤ n → take (n - 4) (drop 4 xs) ≡ drop 4 (take n xs)
body_cut xs n h = sym (drop-take 4 (n - 4) xs) ∙ ap (λ k. drop 4 (take k xs)) (omega arith)

rest_cut : (xs : List ℕ) (n : ℕ) → 4 ≤ n → drop (n - 4) (drop 4 xs) ≡ drop n xs
rest_cut xs n h = drop-drop (n - 4) 4 xs ∙ ap (λ k. drop k xs) (omega arith)

-- a whole record is read as what its kind and body show
pub whole_record : (xs : List ℕ) (place n : ℕ) (o : Option Shown) → 4 ≤ length xs → n ≡ number2 xs 0 → 4 ≤ n → n ≤ length xs
    → shown (number2 xs 2) (drop 4 (take n xs)) place ≡ o
    → reading xs place ≡ taken_if o (drop n xs)
whole_record xs place n o long e low high s =
    cond-false (eqb (length xs) 0) _ _ (ne_eqb (length xs) 0 (λ z. omega arith))
    ∙ cond-false (ltb (length xs) 4) _ _ (le-ltb (length xs) 4 long)
    ∙ cond-false (ltb (number2 xs 0) 4 || ltb (length xs) (number2 xs 0)) _ _ (or_from _ _ (le-ltb (number2 xs 0) 4 (omega arith)) (le-ltb (length xs) (number2 xs 0) (omega arith)))
    ∙ subst (λ k. taken_if (shown (number2 xs 2) (drop 4 (take k xs)) place) (drop k xs) ≡ taken_if o (drop n xs)) e (ap (λ p. taken_if p (drop n xs)) s)

-- a record was taken off the bytes xs, which begin at a place
pub record Took (xs : List ℕ) (place : ℕ) (s : Shown) (rest : List ℕ) : Type 0 where
  pub long : ℕ
  pub at_least : 4 ≤ long
  pub at_most : long ≤ length xs
  pub says : number2 xs 0 ≡ long
  pub shows : shown (number2 xs 2) (drop 4 (take long xs)) place ≡ Some s
  pub leaves : rest ≡ drop long xs

never : (cause : _) (s : Shown) (rest : List ℕ) → broken cause ≡ taken s rest → ⊥
never cause s rest e = let z : ◌≡◌ {A = ℕ} 0 1 = cc in omega arith

-- a test that did not stop the reading
past : (b : Bool) (cause : _) (next : Reading) (s : Shown) (rest : List ℕ) → cond b (broken cause) next ≡ taken s rest → (b ≡ false) × (next ≡ taken s rest)
past true cause next s rest e = absurd (never cause s rest e)
past false cause next s rest e = (refl, e)

taken_some : (o : Option Shown) (left : List ℕ) (s : Shown) (rest : List ℕ) → taken_if o left ≡ taken s rest → (o ≡ Some s) × (rest ≡ left)
taken_some None left s rest e = absurd (never _ s rest e)
taken_some (Some t) left s rest e = (cc, cc)

pub took : (xs : List ℕ) (place : ℕ) (s : Shown) (rest : List ℕ) → reading xs place ≡ taken s rest → Took xs place s rest
took xs place s rest e =
    let a = past (eqb (length xs) 0) _ _ s rest e in
    let b = past (ltb (length xs) 4) _ _ s rest a.1 in
    let d = past (ltb (number2 xs 0) 4 || ltb (length xs) (number2 xs 0)) _ _ s rest b.1 in
    let p = or_parts (ltb (number2 xs 0) 4) (ltb (length xs) (number2 xs 0)) d.0 in
    let t = taken_some (shown (number2 xs 2) (drop 4 (take (number2 xs 0) xs)) place) (drop (number2 xs 0) xs) s rest d.1 in
    record {
      long = number2 xs 0;
      at_least = ltb-false _ _ p.0;
      at_most = ltb-false _ _ p.1;
      says = refl;
      shows = t.0;
      leaves = t.1;
    }

-- a record whose length and kind stand in two bytes each
pub record Short (r : Raw) : Type 0 where
  pub kind_low : r.kind < 65536
  pub length_low : 4 + length r.body < 65536

pub framed-length : (r : Raw) (rest : List ℕ) → length (framed r ++ rest) ≡ 4 + (length r.body + length rest)
framed-length r rest = let e = length-append r.body rest in omega arith

-- the bytes of variables, eight each
pub variables_long : (vs : List Variable) → length (flat_map framed (map variable_record vs)) ≡ 8 * length vs
variables_long [] = refl
variables_long (v ∷ vs) = let k = variables_long vs in omega arith

-- the first record of bytes that begin with a framed one
pub framed_first : (r : Raw) (rest : List ℕ) → Short r
    → (number2 (framed r ++ rest) 0 ≡ 4 + length r.body)
    × (number2 (framed r ++ rest) 2 ≡ r.kind)
    × (drop 4 (take (4 + length r.body) (framed r ++ rest)) ≡ r.body)
    × (drop (4 + length r.body) (framed r ++ rest) ≡ rest)
framed_first r rest short = (
  two_back (4 + length r.body) (two r.kind ++ (r.body ++ rest)) short.length_low,
  two_back r.kind (r.body ++ rest) short.kind_low,
  drop-take 4 (length r.body) (framed r ++ rest) ∙ take_at r.body rest (length r.body) refl,
  sym (drop-drop (length r.body) 4 (framed r ++ rest)) ∙ drop_at r.body rest (length r.body) refl,
)

-- reading a framed record gives it back, with what follows it
pub framed_read : (r : Raw) (rest : List ℕ) (place : ℕ) → Short r → reading (framed r ++ rest) place ≡ taken_if (shown r.kind r.body place) rest
framed_read r rest place short =
    let xs : List ℕ = framed r ++ rest in
    let f = framed_first r rest short in
    let n : ℕ = 4 + length r.body in
    let long = framed-length r rest in
    let many : 4 ≤ length (framed r ++ rest) = omega arith in
    let fits : 4 + length r.body ≤ length (framed r ++ rest) = omega arith in
    whole_record xs place n (shown r.kind r.body place) many (sym f.0) (omega arith) fits
    (ap (λ k. shown k (drop 4 (take n xs)) place) f.1 ∙ ap (λ b. shown r.kind b place) f.2)
    ∙ ap (taken_if (shown r.kind r.body place)) f.3

-- bytes whose first two say a length that they have are a framed record and what follows it
pub record Cut (xs : List ℕ) (long : ℕ) : Type 0 where
  pub raw : Raw
  pub kind : raw.kind ≡ number2 xs 2
  pub body : raw.body ≡ drop 4 (take long xs)
  pub short : Short raw
  pub bytes : Bytes raw.body
  pub same : xs ≡ framed raw ++ drop long xs

pub cut_again : (xs : List ℕ) (long : ℕ) → Bytes xs → 4 ≤ long → long ≤ length xs → number2 xs 0 ≡ long → Cut xs long
cut_again xs long b low most says =
    let body : List ℕ = drop 4 (take long xs) in
    let head = word_at xs 0 b (omega arith) in
    let kind = word_at xs 2 b (omega arith) in
    let cut = length-take long xs in
    let many = length-drop 4 (take long xs) in
    let whole : number2 xs 0 ≡ 4 + length (drop 4 (take long xs)) = omega arith in
    let after : drop 4 xs ≡ body ++ drop long xs =
    sym (take-append-drop (long - 4) (drop 4 xs)) ∙ ap (λ ys. ys ++ drop (long - 4) (drop 4 xs)) (body_cut xs long low) ∙ ap (λ ys. body ++ ys) (rest_cut xs long low) in
    record {
      raw = record { kind = number2 xs 2; body = body };
      kind = refl;
      body = refl;
      short = record { kind_low = kind.1; length_low = (let h = head.1 in omega arith) };
      bytes = All-drop (λ x. x < 256) 4 (take long xs) (All-take (λ x. x < 256) long xs b);
      same =
          head.0
          ∙ ap (λ ys. two (number2 xs 0) ++ ys) (kind.0 ∙ ap (λ ys. two (number2 xs 2) ++ ys) after)
          ∙ ap (λ n. two n ++ (two (number2 xs 2) ++ (body ++ drop long xs))) whole;
    }

-- the first record that a reading took, framed again
pub record Framed (xs : List ℕ) (place : ℕ) (s : Shown) (rest : List ℕ) : Type 0 where
  pub raw : Raw
  pub short : Short raw
  pub bytes : Bytes raw.body
  pub same : xs ≡ framed raw ++ rest
  pub shows : shown raw.kind raw.body place ≡ Some s

pub framed_again : (xs : List ℕ) (place : ℕ) (s : Shown) (rest : List ℕ) → Bytes xs → Took xs place s rest → Framed xs place s rest
framed_again xs place s rest b t =
    let c : Cut xs t.long = cut_again xs t.long b t.at_least t.at_most t.says in
    record {
      raw = c.raw;
      short = c.short;
      bytes = c.bytes;
      same = c.same ∙ ap (λ ys. framed c.raw ++ ys) (sym t.leaves);
      shows = ap (λ k. shown k c.raw.body place) c.kind ∙ ap (λ ys. shown (number2 xs 2) ys place) c.body ∙ t.shows;
    }
