-- What a write at the tail and a step of the head make of the entries that wait.
use Rattle.std.proofs.Common.{◌≡◌, ℕ, ◌+◌, ◌-◌, ◌<◌, ◌≤◌, cond, ltb, ◌⊎◌, List, [], ◌∷◌, ◌++◌, length, get_or, take, drop, set, sym, ap, ◌∙◌, inl, inr, ⊎_elim, add-one, arith}
use lib.Seq.{take-set-lt}
use Rattle.std.proofs.lemmas.List.{length-take, length-drop, length-append, length-take-le, drop-set-add, take-set-le, set-append_left, set-append_right, drop-set-lt, take_more_set, drop_more, take_more, append_assoc, append-nil, take_all, drop_all, take-append-le, get_or-take}
use Rattle.std.proofs.lemmas.Bool.{cases_lt, cond-false, cond-true, le-ltb, lt-ltb}
use Rattle.engine.specs.declared.fifo.Queue.{Queue}
use Rattle.engine.specs.Waiting.{waiting, waits, turned}

module _ {T : Type 0} where
  length-turned : (xs : List T) (h : ℕ) → h ≤ length xs → length (turned xs h) ≡ length xs
  length-turned xs h b = simp (length-append, length-drop, length-take) (omega arith)

  pub length-waiting : (xs : List T) (n h k : ℕ) → n ≤ length xs → h ≤ n → k ≤ n → length (waiting xs n h k) ≡ k
  unfolding waiting
  length-waiting xs n h k b c d =
      let e : length (take n xs) ≡ n = length-take-le n xs b in
      let f : length (turned (take n xs) h) ≡ n = length-turned (take n xs) h (omega arith) ∙ e in
      length-take-le k (turned (take n xs) h) (omega arith)

  -- a write where the tail stands, before the end and past it
  turned_near : (xs : List T) (h k : ℕ) (x : T) → h + k < length xs → turned (set xs (h + k) x) h ≡ set (turned xs h) k x
  turned_near xs h k x b =
      let e : drop h (set xs (h + k) x) ≡ set (drop h xs) k x = drop-set-add h xs k x in
      let f : take h (set xs (h + k) x) ≡ take h xs = take-set-le h xs (h + k) x (omega arith) in
      let l : k < length (drop h xs) = simp length-drop (omega arith) in
      rw (e, f) (sym (set-append_left (drop h xs) (take h xs) k x l))

  turned_far : (xs : List T) (h k : ℕ) (x : T) → h ≤ length xs → length xs - h ≤ k → k < length xs → turned (set xs (k - (length xs - h)) x) h ≡ set (turned xs h) k x
  turned_far xs h k x a b c =
      let t : k - (length xs - h) < h = omega arith in
      let e : drop h (set xs (k - (length xs - h)) x) ≡ drop h xs = drop-set-lt h xs (k - (length xs - h)) x t in
      let f : take h (set xs (k - (length xs - h)) x) ≡ set (take h xs) (k - (length xs - h)) x = take-set-lt h xs (k - (length xs - h)) x t in
      rw (e, f) (sym (set-append_right (drop h xs) (take h xs) (length xs - h) k x (length-drop h xs) b))

  pub push_near : (xs : List T) (n h k : ℕ) (x : T) → n ≤ length xs → h ≤ n → k < n - h → waiting (set xs (h + k) x) n h (k + 1) ≡ waiting xs n h k ++ (x ∷ [])
  unfolding waiting
  push_near xs n h k x b c d =
      let e : length (take n xs) ≡ n = length-take-le n xs b in
      let s : take n (set xs (h + k) x) ≡ set (take n xs) (h + k) x = take-set-lt n xs (h + k) x (omega arith) in
      let t : turned (set (take n xs) (h + k) x) h ≡ set (turned (take n xs) h) k x = turned_near (take n xs) h k x (omega arith) in
      let f : length (turned (take n xs) h) ≡ n = length-turned (take n xs) h (omega arith) ∙ e in
      ap (λ (ys : List T). take (k + 1) (turned ys h)) s ∙ ap (take (k + 1)) t ∙ take_more_set (turned (take n xs) h) k x (omega arith)

  pub push_far : (xs : List T) (n h k : ℕ) (x : T) → n ≤ length xs → h ≤ n → n - h ≤ k → k < n → waiting (set xs (k - (n - h)) x) n h (k + 1) ≡ waiting xs n h k ++ (x ∷ [])
  unfolding waiting
  push_far xs n h k x b c d g =
      let e : length (take n xs) ≡ n = length-take-le n xs b in
      let s : take n (set xs (k - (n - h)) x) ≡ set (take n xs) (k - (n - h)) x = take-set-lt n xs (k - (n - h)) x (omega arith) in
      let u : turned (set (take n xs) (k - (length (take n xs) - h)) x) h ≡ set (turned (take n xs) h) k x = turned_far (take n xs) h k x (omega arith) (omega arith) (omega arith) in
      let t : turned (set (take n xs) (k - (n - h)) x) h ≡ set (turned (take n xs) h) k x = rw e at u in
      let f : length (turned (take n xs) h) ≡ n = length-turned (take n xs) h (omega arith) ∙ e in
      ap (λ (ys : List T). take (k + 1) (turned ys h)) s ∙ ap (take (k + 1)) t ∙ take_more_set (turned (take n xs) h) k x (omega arith)

  -- a head at the limit may as well stand at the start
  pub waiting_round : (xs : List T) (n k : ℕ) → n ≤ length xs → waiting xs n n k ≡ waiting xs n 0 k
  unfolding waiting
  waiting_round xs n k b =
      let e : length (take n xs) ≡ n = length-take-le n xs b in
      let d : drop n (take n xs) ≡ [] = drop_all n (take n xs) (omega arith) in
      let t : take n (take n xs) ≡ take n xs = take_all n (take n xs) (omega arith) in
      ap (λ (ys : List T). take k (ys ++ take n (take n xs))) d ∙ ap (take k) (t ∙ sym (append-nil (take n xs)))

  -- the head's own entry goes first
  pub pop_head : (xs : List T) (n h k : ℕ) (d : T) → n ≤ length xs → h < n → k < n → waiting xs n h (k + 1) ≡ get_or xs h d ∷ waiting xs n (h + 1) k
  unfolding waiting
  pop_head xs n h k d b c l = popped (take n xs) (length-take-le n xs b) ∙ ap (λ (y : T). y ∷ take k (turned (take n xs) (h + 1))) (get_or-take n xs h d c)
    where
      popped : (ys : List T) → length ys ≡ n → take (k + 1) (turned ys h) ≡ get_or ys h d ∷ take k (turned ys (h + 1))
      popped ys e =
          let x : T = get_or ys h d in
          let p : drop h ys ≡ x ∷ drop (h + 1) ys = drop_more ys h d (omega arith) in
          let q : take (h + 1) ys ≡ take h ys ++ (x ∷ []) = take_more ys h d (omega arith) in
          let m : k ≤ length (drop (h + 1) ys ++ take h ys) = simp (length-append, length-drop, length-take) (omega arith) in
          ap (λ (zs : List T). take (k + 1) (zs ++ take h ys)) p
          ∙ ap (λ (j : ℕ). take j ((x ∷ drop (h + 1) ys) ++ take h ys)) (add-one k)
          ∙ ap (λ (zs : List T). x ∷ zs)
          (sym (take-append-le k (drop (h + 1) ys ++ take h ys) (x ∷ []) m)
          ∙ ap (take k) (append_assoc (drop (h + 1) ys) (take h ys) (x ∷ []) ∙ ap (λ (zs : List T). drop (h + 1) ys ++ zs) (sym q)))

  -- the two ways of a pop at once: the head stands before the limit, or at it
  pub pop_at : (xs : List T) (n h k t : ℕ) (d : T) → n ≤ length xs → h ≤ n → k ≤ n → (k ≡ 0 → ⊥) → ((h < n) × (t ≡ h)) ⊎ ((n ≤ h) × (t ≡ 0)) → waiting xs n h k ≡ get_or xs t d ∷ waiting xs n (t + 1) (k - 1)
  pop_at xs n h k t d a b c z (inl (l, e)) =
      let p : waiting xs n h ((k - 1) + 1) ≡ get_or xs h d ∷ waiting xs n (h + 1) (k - 1) = pop_head xs n h (k - 1) d a l (omega arith) in
      let m : (k - 1) + 1 ≡ k = omega arith in
      let q : waiting xs n h k ≡ get_or xs h d ∷ waiting xs n (h + 1) (k - 1) = rw m at p in
      q ∙ ap (λ (j : ℕ). get_or xs j d ∷ waiting xs n (j + 1) (k - 1)) (sym e)
  pop_at xs n h k t d a b c z (inr (l, e)) =
      let p : waiting xs n 0 ((k - 1) + 1) ≡ get_or xs 0 d ∷ waiting xs n (0 + 1) (k - 1) = pop_head xs n 0 (k - 1) d a (omega arith) (omega arith) in
      let m : (k - 1) + 1 ≡ k = omega arith in
      let q : waiting xs n 0 k ≡ get_or xs 0 d ∷ waiting xs n (0 + 1) (k - 1) = rw m at p in
      let f : h ≡ n = omega arith in
      let r : waiting xs n h k ≡ waiting xs n 0 k = ap (λ (j : ℕ). waiting xs n j k) f ∙ waiting_round xs n k a in
      r ∙ q ∙ ap (λ (j : ℕ). get_or xs j d ∷ waiting xs n (j + 1) (k - 1)) (sym e)

  -- the two ways of a push at once: the tail stands before the limit, or from the start again
  pub push_at : (xs : List T) (n h k t : ℕ) (x : T) → n ≤ length xs → h ≤ n → k < n → ((k < n - h) × (t ≡ h + k)) ⊎ ((n - h ≤ k) × (t ≡ k - (n - h))) → waiting (set xs t x) n h (k + 1) ≡ waiting xs n h k ++ (x ∷ [])
  push_at xs n h k t x a b c (inl (l, e)) = rw e (push_near xs n h k x a b l)
  push_at xs n h k t x a b c (inr (l, e)) = rw e (push_far xs n h k x a b l c)

  -- as many wait as the queue counts
  pub length-waits : (q : Queue T) → length (waits q) ≡ q.len
  length-waits q = length-waiting q.buffer.now q.limit q.head q.len q.within q.turn q.few

-- the two ways to the place of the next entry
pub tail_ways : (n h k t : ℕ) → t ≡ cond (ltb k (n - h)) (h + k) (k - (n - h)) → ((k < n - h) × (t ≡ h + k)) ⊎ ((n - h ≤ k) × (t ≡ k - (n - h)))
tail_ways n h k t e =
    ⊎_elim (λ l. inl (l, e ∙ cond-true (ltb k (n - h)) _ _ (lt-ltb k (n - h) l))) (λ g. inr (g, e ∙ cond-false (ltb k (n - h)) _ _ (le-ltb k (n - h) g)))
    (cases_lt k (n - h))

-- the two ways to the place of the first entry
pub start_ways : (n h t : ℕ) → t ≡ cond (ltb h n) h 0 → ((h < n) × (t ≡ h)) ⊎ ((n ≤ h) × (t ≡ 0))
start_ways n h t e =
    ⊎_elim (λ l. inl (l, e ∙ cond-true (ltb h n) _ 0 (lt-ltb h n l))) (λ g. inr (g, e ∙ cond-false (ltb h n) _ 0 (le-ltb h n g))) (cases_lt h n)
