-- Which entries wait in a queue, and what a call on it leaves of the buffer that it was lent.
use Rattle.std.specs.Prelude.{◌≡◌, ℕ, List, ◌++◌, length, take, drop}
use Rattle.std.specs.Borrow.{MutBor}
use Rattle.engine.specs.declared.fifo.Queue.{Queue}

-- `xs` from its entry `h` on, and then from its start
abbrev pub turned : {T : Type 0} → List T → ℕ → List T
turned xs h = drop h xs ++ take h xs

-- the first `len` of the buffer's first `limit` entries, read from `head` on
unfoldable pub waiting : {T : Type 0} → List T → ℕ → ℕ → ℕ → List T
waiting buffer limit head len = take len (turned (take limit buffer) head)

-- the entries that wait, the one that has waited longest first
abbrev pub waits : {T : Type 0} → Queue T → List T
waits q = waiting q.buffer.now q.limit q.head q.len

-- the same buffer, as long as it was, with the same limit, and past the limit as it was
pub record Kept {T : Type 0} (q q' : Queue T) : Type 0 where
  pub same : q'.buffer.ghost_name ≡ q.buffer.ghost_name
  pub limit : q'.limit ≡ q.limit
  pub long : length q'.buffer.now ≡ length q.buffer.now
  pub rest : drop q.limit q'.buffer.now ≡ drop q.limit q.buffer.now

-- the queue stands on the buffer, which is as it was lent
pub record Over {T : Type 0} (q : Queue T) (buffer : MutBor (List T)) : Type 0 where
  pub same : q.buffer.ghost_name ≡ buffer.ghost_name
  pub filled : q.buffer.now ≡ buffer.now
