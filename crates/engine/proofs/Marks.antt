-- Marks and the queue of constraints: one more waits, one goes, none is left.
use Rattle.std.proofs.Common.{◌≡◌, ℕ, zero, suc, ◌+◌, ◌<◌, ◌≤◌, Bool, true, false, cond, eqb, ltb, List, [], ◌∷◌, ◌++◌, length, get_or, set, sym, refl, ap, ◌∙◌, ⊎_elim, arith}
use Rattle.std.proofs.lemmas.List.{get_or-set_same, get_or-set_other, get_or_past, length-set}
use Rattle.std.proofs.lemmas.Bool.{cases_eq, cases_lt, cases_Bool, both_ways, eq-eqb, ne_eqb, lt-ltb, cond-true}
use Rattle.engine.specs.declared.fifo.Queue.{Queue}
use Rattle.engine.specs.Waiting.{waits, Kept}
use Rattle.engine.specs.Queued.{number, often, marked, Queued}

number_true : (b : Bool) → b ≡ true → number b ≡ 1
number_true b e = ap number e

number_false : (b : Bool) → b ≡ false → number b ≡ 0
number_false b e = ap number e

pub marked-set : (bs : List Bool) (p : ℕ) (b : Bool) → p < length bs → marked (set bs p b) + number (get_or bs p false) ≡ marked bs + number b
marked-set [] p b h = absurd (omega arith)
marked-set (e ∷ bs) zero b h = omega arith
marked-set (e ∷ bs) (suc p) b h = omega (arith, marked-set bs p b (omega arith))

at_most_one : (b : Bool) → number b ≤ 1
at_most_one true = omega arith
at_most_one false = omega arith

marked_few : (bs : List Bool) → marked bs ≤ length bs
marked_few [] = omega arith
marked_few (b ∷ bs) = omega (arith, marked_few bs, at_most_one b)

pub marked_spare : (bs : List Bool) (p : ℕ) → p < length bs → get_or bs p false ≡ false → marked bs < length bs
marked_spare bs p h e =
    let m : marked (set bs p true) + number (get_or bs p false) ≡ marked bs + 1 = marked-set bs p true h in
    let z : number (get_or bs p false) ≡ 0 = number_false (get_or bs p false) e in
    omega (arith, m, z, marked_few (set bs p true), length-set bs p true)

often_push : (w : List ℕ) (e p : ℕ) → often (w ++ (e ∷ [])) p ≡ often w p + number (eqb e p)
often_push [] e p = omega arith
often_push (x ∷ w) e p = omega (arith, often_push w e p)

low_mark : (marks : List Bool) (p : ℕ) → length marks ≡ 128 → get_or marks p false ≡ true → p < 128
low_mark marks p e h =
    ⊎_elim (λ l. l) (λ g. absurd (both_ways (get_or marks p false) (get_or_past marks p false (omega arith)) h)) (cases_lt p 128)

-- an unmarked constraint is marked and waits last
module _ (q q' : Queue ℕ) (marks : List Bool) (p : ℕ) (r : Bool) (low : p < 128) (queued : Queued q marks) where
  pub queued_push : get_or marks p false ≡ false → r ≡ ltb q.len q.limit → waits q' ≡ cond r (waits q ++ (p ∷ [])) (waits q) → q'.len ≡ cond r (q.len + 1) q.len → Kept q q' → Queued q' (set marks p true)
  queued_push un fits waiting len kept =
      let buffer : q.len < q.limit = omega (arith, marked_spare marks p (omega (arith, queued.long)) un, queued.long, queued.count, queued.limit) in
      let t : r ≡ true = fits ∙ lt-ltb q.len q.limit buffer in
      let w : waits q' ≡ waits q ++ (p ∷ []) = waiting ∙ cond-true r _ _ t in
      let l : q'.len ≡ q.len + 1 = len ∙ cond-true r _ _ t in
      let m : marked (set marks p true) + number (get_or marks p false) ≡ marked marks + 1 = marked-set marks p true (omega (arith, queued.long)) in
      let z : number (get_or marks p false) ≡ 0 = number_false (get_or marks p false) un in
      record {
        limit = kept.limit ∙ queued.limit;
        long = length-set marks p true ∙ queued.long;
        once = λ k. ap (λ l. often l k) w ∙ often_push (waits q) p k ∙ at k;
        count = omega (arith, m, z, l, queued.count);
      }
    where
      at : (k : ℕ) → often (waits q) k + number (eqb p k) ≡ number (get_or (set marks p true) k false)
      at k =
          ⊎_elim
          (λ e. let f : number (eqb p k) ≡ 1 = number_true (eqb p k) (eq-eqb p k e) in
          let g : number (get_or (set marks p true) k false) ≡ 1 =
          number_true (get_or (set marks p true) k false) (ap (λ j. get_or (set marks p true) j false) (sym e) ∙ get_or-set_same marks p true false (omega (arith, queued.long))) in
          let o : often (waits q) k ≡ 0 = queued.once k ∙ number_false (get_or marks k false) (ap (λ j. get_or marks j false) (sym e) ∙ un) in
          omega (arith, f, g, o))
          (λ ne. let f : number (eqb p k) ≡ 0 = number_false (eqb p k) (ne_eqb p k ne) in
          let g : number (get_or (set marks p true) k false) ≡ number (get_or marks k false) =
          ap number (get_or-set_other marks p k true false (λ e. ne (sym e))) in
          omega (arith, f, g, queued.once k))
          (cases_eq p k)

-- the first goes, and is unmarked
module _ (q q' : Queue ℕ) (marks : List Bool) (p : ℕ) (queued : Queued q marks) (waiting : waits q ≡ p ∷ waits q') where
  first_often : often (waits q) p ≡ 1 + often (waits q') p
  first_often = ap (λ l. often l p) waiting ∙ ap (λ n. n + often (waits q') p) (number_true (eqb p p) (eq-eqb p p refl))

  pub first_marked : get_or marks p false ≡ true
  first_marked =
      ⊎_elim (λ t. t) (λ f. absurd (omega (arith, first_often, queued.once p, number_false (get_or marks p false) f))) (cases_Bool (get_or marks p false))

  pub first_low : p < 128
  first_low = low_mark marks p queued.long first_marked

  pub queued_pop : q'.len + 1 ≡ q.len → Kept q q' → Queued q' (set marks p false)
  queued_pop len kept =
      let m : marked (set marks p false) + number (get_or marks p false) ≡ marked marks + 0 = marked-set marks p false (omega (arith, first_low, queued.long)) in
      let z : number (get_or marks p false) ≡ 1 = number_true (get_or marks p false) first_marked in
      record {
        limit = kept.limit ∙ queued.limit;
        long = length-set marks p false ∙ queued.long;
        once = at;
        count = omega (arith, m, z, len, queued.count);
      }
    where
      at : (k : ℕ) → often (waits q') k ≡ number (get_or (set marks p false) k false)
      at k =
          ⊎_elim
          (λ e. let g : number (get_or (set marks p false) k false) ≡ 0 =
          number_false (get_or (set marks p false) k false) (ap (λ j. get_or (set marks p false) j false) (sym e) ∙ get_or-set_same marks p false false (omega (arith, first_low, queued.long))) in
          let f : often (waits q') k ≡ 0 =
          ap (λ j. often (waits q') j) (sym e) ∙ omega (arith, first_often, queued.once p, at_most_one (get_or marks p false)) in
          omega (arith, f, g))
          (λ ne. let g : number (get_or (set marks p false) k false) ≡ number (get_or marks k false) =
          ap number (get_or-set_other marks p k false false (λ e. ne (sym e))) in
          let f : often (waits q) k ≡ number (eqb p k) + often (waits q') k = ap (λ l. often l k) waiting in
          let h : number (eqb p k) ≡ 0 = number_false (eqb p k) (ne_eqb p k ne) in
          omega (arith, f, g, h, queued.once k))
          (cases_eq p k)
