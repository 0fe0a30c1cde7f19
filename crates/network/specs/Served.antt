-- What a call on a network does, by the meaning of the network's catalog.
use Rattle.catalog.specs.Meaning.{Meaning}
use Rattle.network.specs.declared.law.Answer.{Answer}
use Rattle.network.specs.Buffers.{Buffers}
use Rattle.network.specs.Calls.{Call}
use Rattle.network.specs.Model.{Linked}
use Rattle.network.specs.Performs.{Performs, TookLent}
use Rattle.network.specs.declared.network.Network.{Network}

-- the network is linked to its catalog: what it knows of constraints is what the catalog means
abbrev pub Stands : {C : Type 0} → (C → Meaning) → Network C → Type 0
Stands meaning n = Linked (meaning n.catalog) n.state

-- the call led from one network to the other by a step of the law, with this answer
abbrev pub Serves : {C : Type 0} → (C → Meaning) → Network C → Call → Answer → Network C → Type 0
Serves meaning n k a n' = Performs (meaning n.catalog) n.state k a n'.state

-- the same, with what the lent buffers held before the call and after it
abbrev pub ServesLent : {C : Type 0} → (C → Meaning) → Network C → Buffers → Call → Answer → Network C → Buffers → Type 0
ServesLent meaning n b k a n' b' = Stands meaning n → TookLent (meaning n.catalog) n.state b k a n'.state b'
