-- Constraints that wait to be visited: each stands in the queue at most once, and is marked while it does.
use Rattle.std.specs.Prelude.{◌≡◌, ℕ, ◌+◌, Bool, false, cond, List, [], ◌∷◌, length, ◌==◌, slice_index_or}
use Rattle.engine.specs.declared.fifo.Queue.{Queue}
use Rattle.engine.specs.Waiting.{waits}

-- 1 for yes and 0 for no
abbrev pub number : Bool → ℕ
number b = cond b 1 0

-- how often p stands in the list
abbrev pub often : List ℕ → ℕ → ℕ
often [] p = 0
often (q ∷ w) p = number (q == p) + often w p

-- how many marks are set
abbrev pub marked : List Bool → ℕ
marked [] = 0
marked (b ∷ bs) = number b + marked bs

-- exactly the marked constraints wait, each once
pub record Queued (q : Queue ℕ) (marks : List Bool) : Type 0 where
  pub limit : q.limit ≡ 128
  pub long : length marks ≡ 128
  pub once : (p : ℕ) → often (waits q) p ≡ number (slice_index_or marks p false)
  pub count : marked marks ≡ q.len
