-- The two buffers that are lent to calls, and what a call leaves in them.
use Rattle.std.specs.Prelude.{◌≡◌, ℕ, List, Some, None, Option}
use Rattle.domains.specs.declared.Returning.{Returning}
use Rattle.domains.specs.Stands.{Past}
use Rattle.catalog.specs.declared.refusal.Refusal.{Refusal}
use Rattle.network.specs.Calls.{Call, opens, adds, retracts, asks_domain, asks_shown, asks_justification, asks_wiped}

-- what they hold: constraints that wait, and values that come back
pub record Buffers : Type 0 where
  pub waiting : List ℕ
  pub returning : List Returning

-- What an accepted call may write: an add the first 128 entries of the buffer of constraints, a retract these and the first 2,048 of the buffer of values.
-- An open and a question write nothing.
abbrev pub Writes : Call → Buffers → Buffers → Type 0
Writes (opens sizes time) b b' = b' ≡ b
Writes (adds p lengths) b b' = Past 128 b.waiting b'.waiting × (b'.returning ≡ b.returning)
Writes (retracts p lengths) b b' = Past 128 b.waiting b'.waiting × Past 2048 b.returning b'.returning
Writes (asks_domain i) b b' = b' ≡ b
Writes (asks_shown i x) b b' = b' ≡ b
Writes (asks_justification i x) b b' = b' ≡ b
Writes asks_wiped b b' = b' ≡ b

-- what a call leaves: a refused one, all as it was
abbrev pub Leaves : Option Refusal → Call → Buffers → Buffers → Type 0
Leaves (Some e) k b b' = b' ≡ b
Leaves None k b b' = Writes k b b'
