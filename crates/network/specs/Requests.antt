-- The calls that a program lists, as the law names them.
use Rattle.std.specs.Prelude.{List, map, min}
use Rattle.network.specs.Calls.{Lengths, opens, adds, retracts, asks_domain, asks_shown, asks_justification, asks_wiped, Call as Asked}
use Rattle.network.specs.declared.calls.Call.{Call}
use Rattle.network.specs.declared.calls.Call.TheVariants.{Open, Add, Retract, Domain, Shown, Justification, WipedOut}
use Rattle.network.specs.declared.calls.Lent.{Lent}

-- how long the parts of two buffers are that a call is lent: what is asked for, cut to what there is
abbrev pub cut : Lengths → Lent → Lengths
cut lengths lent = record { waiting = min lent.waiting lengths.waiting; returning = min lent.returning lengths.returning }

-- one call, where the buffers have these lengths
abbrev pub call_of : Lengths → Call → Asked
call_of lengths (Open sizes time) = opens sizes.now time
call_of lengths (Add p lent) = adds p (cut lengths lent)
call_of lengths (Retract p lent) = retracts p (cut lengths lent)
call_of lengths (Domain i) = asks_domain i
call_of lengths (Shown i x) = asks_shown i x
call_of lengths (Justification i x) = asks_justification i x
call_of lengths WipedOut = asks_wiped

abbrev pub calls_of : Lengths → List Call → List Asked
calls_of lengths calls = map (call_of lengths) calls
