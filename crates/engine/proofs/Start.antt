-- A queue of constraints to begin with: none waits, and none is marked.
use Rattle.std.proofs.Common.{◌≡◌, ℕ, zero, suc, ◌≤◌, min, Bool, false, List, [], length, get_or, drop, replicate, sym, refl, ap, ◌∙◌, ⊎_elim, arith}
use Rattle.std.proofs.lemmas.List.{get_or-replicate, get_or_past, length-replicate}
use Rattle.std.proofs.lemmas.Bool.{cases_lt}
use Rattle.engine.specs.declared.fifo.Queue.{Queue}
use Rattle.engine.specs.Waiting.{waits, Kept}
use Rattle.domains.specs.Stands.{Past}
use Rattle.engine.specs.Queued.{number, often, marked, Queued}

none_marked : (n : ℕ) → marked (replicate n false) ≡ 0
none_marked zero = refl
none_marked (suc n) = omega (arith, none_marked n)

unmarked_at : (n p : ℕ) → get_or (replicate n false) p false ≡ false
unmarked_at n p =
    ⊎_elim (λ l. get_or-replicate n p false false l) (λ g. get_or_past (replicate n false) p false (omega (arith, length-replicate n false))) (cases_lt p n)

pub queued_start : (q : Queue ℕ) (marks : List Bool) (buffer : ℕ) → marks ≡ replicate 128 false → waits q ≡ [] → q.len ≡ 0 → q.limit ≡ min 128 buffer → 128 ≤ buffer → Queued q marks
queued_start q marks buffer m w l limit h =
    record {
      limit = omega arith;
      long = ap length m ∙ length-replicate 128 false;
      once = λ p. ap (λ v. often v p) w ∙ sym (ap number (ap (λ v. get_or v p false) m ∙ unmarked_at 128 p));
      count = ap marked m ∙ none_marked 128 ∙ sym l;
    }

-- what a queue leaves of the buffer that it stood on
pub past_kept : {T : Type 0} (q q' : Queue T) (buffer last : List T) (n : ℕ) → q.buffer.now ≡ buffer → Kept q q' → q.limit ≡ min n (length buffer) → n ≤ length buffer → last ≡ q'.buffer.now → Past n buffer last
past_kept q q' buffer last n filled kept limit h e =
    let l : q.limit ≡ n = omega arith in
    record {
      long = ap length e ∙ kept.long ∙ ap length filled;
      rest = ap (drop n) e ∙ ap (λ k. drop k q'.buffer.now) (sym l) ∙ kept.rest ∙ ap (λ k. drop k q.buffer.now) l ∙ ap (drop n) filled;
    }
