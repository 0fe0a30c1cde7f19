-- Calls that are lent a part of each buffer.
use Rattle.std.proofs.Common.{◌≡◌, ℕ, ◌+◌, ◌<◌, ◌≤◌, min, List, ◌++◌, length, take, drop, Some, None, Option, Ok, Err, Result, OnErr, sym, refl, ap, ◌∙◌, ⊎_elim, subst, subst₂, arith}
use Rattle.std.proofs.lemmas.Bool.{cases_lt}
use Rattle.std.proofs.lemmas.List.{length-append, length-take-le, take-append-drop, drop-append-le}
use Rattle.std.proofs.lemmas.Slice.{drop-append-drop}
use Rattle.catalog.specs.Meaning.{Meaning}
use Rattle.catalog.specs.declared.refusal.Refusal.{Refusal}
use Rattle.domains.specs.declared.Returning.{Returning}
use Rattle.domains.specs.Stands.{Past}
use Rattle.network.specs.declared.law.Answer.{Answer}
use Rattle.network.specs.declared.law.Answer.TheVariants.{Changed, Refused}
use Rattle.network.specs.declared.law.Change.{Change}
use Rattle.network.specs.Buffers.{Buffers, Writes, Leaves}
use Rattle.network.specs.Calls.{Call, Lengths, opens, adds, retracts, asks_domain, asks_shown, asks_justification, asks_wiped}
use Rattle.network.specs.Moment.{Moment}
use Rattle.network.specs.Step.{Turned}
use Rattle.network.specs.declared.state.State.{State}
use Rattle.network.specs.Performs.{Took, TookLent, answer_by, buffers, lengths_of}
use Rattle.network.specs.Requests.{cut}
use Rattle.network.specs.declared.calls.Lent.{Lent}

-- what is left past a part of a buffer, and in it past its first n entries, is left of the buffer past them
pub past_part : {T : Type 0} (n k : ℕ) (xs ys : List T) → k ≤ length xs → Past n (take k xs) ys → Past n xs (ys ++ drop k xs)
past_part {T} n k xs ys few p =
    let part : length (take k xs) ≡ k = length-take-le k xs few in
    let whole : length (take k xs ++ drop k xs) ≡ length xs = ap length (take-append-drop k xs) in
    record {
      long = length-append ys (drop k xs) ∙ ap (λ m. m + length (drop k xs)) p.long ∙ sym (length-append (take k xs) (drop k xs)) ∙ whole;
      rest =
          ⊎_elim
          (λ l. drop-append-drop k xs ys n (omega arith) (p.long ∙ part))
          (λ g.
          drop-append-le n ys (drop k xs) (omega (arith, p.long, part))
          ∙ ap (λ z. z ++ drop k xs) p.rest
          ∙ sym (drop-append-le n (take k xs) (drop k xs) (omega (arith, part)))
          ∙ ap (drop n) (take-append-drop k xs))
          (cases_lt k n);
    }

-- a part that is as it was
pub same_part : {T : Type 0} (k : ℕ) (xs ys : List T) → ys ≡ take k xs → ys ++ drop k xs ≡ xs
same_part k xs ys e = ap (λ z. z ++ drop k xs) e ∙ take-append-drop k xs

no_refusal : (c : Change) (e : Refusal) → Changed c ≡ Refused e → ⊥
no_refusal c e q = let z : ◌≡◌ {A = ℕ} 0 1 = cc in omega arith

leaves_changed
    : (o : Option Refusal) (m : Meaning) (s : Moment) (k : Call) (r : Result Change Refusal) (t : Moment) (b b' : Buffers) → Turned o m s k (answer_by Changed r) t → OnErr r (b' ≡ b) → Writes k b b' → Leaves o k b b'
leaves_changed None m s k r t b b' turned err writes = writes
leaves_changed (Some e) m s k (Ok c) t b b' turned err writes = absurd (no_refusal c e turned.answer)
leaves_changed (Some e) m s k (Err f) t b b' turned err writes = err

-- a change that leaves the buffers alone where it is refused, and writes what it may where not
pub took_lent : (m : Meaning) (s s' : State) (b b' : Buffers) (k : Call) (r : Result Change Refusal) → Took m s k (answer_by Changed r) s' → OnErr r (b' ≡ b) → Writes k b b' → TookLent m s b k (answer_by Changed r) s' b'
took_lent m s s' b b' k r took err writes =
    record {
      linked = took.linked;
      performed = record { step = took.step; buffers = leaves_changed _ m _ k r _ b b' took.step.turned err writes };
    }

unwritten : (o : Option Refusal) (k : Call) (b : Buffers) → Writes k b b → Leaves o k b b
unwritten None k b w = w
unwritten (Some e) k b w = refl

-- a call that writes nothing
pub took_alone : (m : Meaning) (s s' : State) (b : Buffers) (k : Call) (a : Answer) → Took m s k a s' → Writes k b b → TookLent m s b k a s' b
took_alone m s s' b k a took w =
    record { linked = took.linked; performed = record { step = took.step; buffers = unwritten _ k b w } }

whole : (w : List ℕ) (v : List Returning) (i j : ℕ) → buffers (take i w ++ drop i w) (take j v ++ drop j v) ≡ buffers w v
whole w v i j = ap (λ z. buffers z (take j v ++ drop j v)) (take-append-drop i w) ∙ ap (buffers w) (take-append-drop j v)

same_parts : (w w' : List ℕ) (v v' : List Returning) (i j : ℕ) → buffers w' v' ≡ buffers (take i w) (take j v) → buffers (w' ++ drop i w) (v' ++ drop j v) ≡ buffers w v
same_parts w w' v v' i j e =
    ap (λ b. buffers (b.waiting ++ drop i w) (b.returning ++ drop j v)) e ∙ whole w v i j

-- what is written to parts is written to the buffers
writes_part : (k : Call) (w w' : List ℕ) (v v' : List Returning) (i j : ℕ) → i ≤ length w → j ≤ length v → Writes k (buffers (take i w) (take j v)) (buffers w' v') → Writes k (buffers w v) (buffers (w' ++ drop i w) (v' ++ drop j v))
writes_part (opens sizes time) w w' v v' i j f g e = same_parts w w' v v' i j e
writes_part (adds p lengths) w w' v v' i j f g e = (past_part 128 i w w' f e.0, same_part j v v' e.1)
writes_part (retracts p lengths) w w' v v' i j f g e = (past_part 128 i w w' f e.0, past_part 2048 j v v' g e.1)
writes_part (asks_domain n) w w' v v' i j f g e = same_parts w w' v v' i j e
writes_part (asks_shown n x) w w' v v' i j f g e = same_parts w w' v v' i j e
writes_part (asks_justification n x) w w' v v' i j f g e = same_parts w w' v v' i j e
writes_part asks_wiped w w' v v' i j f g e = same_parts w w' v v' i j e

leaves_part : (o : Option Refusal) (k : Call) (w w' : List ℕ) (v v' : List Returning) (i j : ℕ) → i ≤ length w → j ≤ length v → Leaves o k (buffers (take i w) (take j v)) (buffers w' v') → Leaves o k (buffers w v) (buffers (w' ++ drop i w) (v' ++ drop j v))
leaves_part None k w w' v v' i j f g e = writes_part k w w' v v' i j f g e
leaves_part (Some c) k w w' v v' i j f g e = same_parts w w' v v' i j e

-- a call that is lent parts of the buffers
pub part_lent
    : (m : Meaning) (s s' : State) (k : Call) (a : Answer) (w w' : List ℕ) (v v' : List Returning) (i j : ℕ) → i ≤ length w → j ≤ length v → TookLent m s (buffers (take i w) (take j v)) k a s' (buffers w' v')
    → TookLent m s (buffers w v) k a s' (buffers (w' ++ drop i w) (v' ++ drop j v))
part_lent m s s' k a w w' v v' i j f g took =
    record {
      linked = took.linked;
      performed = record { step = took.performed.step; buffers = leaves_part _ k w w' v v' i j f g took.performed.buffers };
    }

-- the parts are as long as the call is lent
pub lent_lengths : (w : List ℕ) (v : List Returning) (k l : ℕ) (lent : Lent) → k ≡ min lent.waiting (length w) → l ≡ min lent.returning (length v) → lengths_of (take k w) (take l v) ≡ cut (lengths_of w v) lent
lent_lengths w v k l lent e f =
    let p : length (take k w) ≡ min lent.waiting (length w) = length-take-le k w (omega (arith, e)) ∙ e in
    let q : length (take l v) ≡ min lent.returning (length v) = length-take-le l v (omega (arith, f)) ∙ f in
    λ i. record { waiting = p i; returning = q i }
