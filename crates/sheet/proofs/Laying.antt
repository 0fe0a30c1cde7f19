-- Bytes laid into a buffer, and more after them.
use Rattle.std.proofs.Common.{◌≡◌, ℕ, ◌+◌, ◌≤◌, List, [], ◌∷◌, ◌++◌, length, take, drop, sym, ap, ◌∙◌, arith}
use Rattle.std.proofs.lemmas.List.{append_assoc, length-append, length-take-le, take_at, drop_at, drop-drop}
use Rattle.sheet_format.specs.Writing.{laid}

pub laid_twice : (place on : ℕ) (head body xs : List ℕ) → on ≡ place + length head → on ≤ length xs → laid on body (laid place head xs) ≡ laid place (head ++ body) xs
laid_twice place on head body xs e l =
    let left : List ℕ = take place xs in
    let more : List ℕ = drop (place + length head) xs in
    let few = length-take-le place xs (omega arith) in
    let long = length-append (take place xs) head in
    let whole = length-append head body in
    let at : length (take place xs ++ head) ≡ on = omega arith in
    let first : take on (laid place head xs) ≡ left ++ head = ap (take on) (sym (append_assoc left head more)) ∙ take_at (left ++ head) more on at in
    let rest : drop on (laid place head xs) ≡ more = ap (drop on) (sym (append_assoc left head more)) ∙ drop_at (left ++ head) more on at in
    let last : drop (on + length body) (laid place head xs) ≡ drop (place + length (head ++ body)) xs =
    sym (drop-drop (length body) on (laid place head xs)) ∙ ap (drop (length body)) rest ∙ drop-drop (length body) (place + length head) xs ∙ ap (λ k. drop k xs) (omega arith) in
    ap (λ ys. ys ++ (body ++ drop (on + length body) (laid place head xs))) first
    ∙ ap (λ ys. (left ++ head) ++ (body ++ ys)) last
    ∙ append_assoc left head (body ++ drop (place + length (head ++ body)) xs)
    ∙ ap (λ ys. left ++ ys) (sym (append_assoc head body (drop (place + length (head ++ body)) xs)))

-- four bytes, and more after them
pub laid_head : (place l0 l1 k0 k1 : ℕ) (body xs : List ℕ) → place + 4 ≤ length xs
    → laid (place + 4) body (laid place (l0 ∷ (l1 ∷ (k0 ∷ (k1 ∷ [])))) xs) ≡ laid place (l0 ∷ (l1 ∷ (k0 ∷ (k1 ∷ body)))) xs
laid_head place l0 l1 k0 k1 body xs l = laid_twice place (place + 4) (l0 ∷ (l1 ∷ (k0 ∷ (k1 ∷ [])))) body xs (omega arith) l
