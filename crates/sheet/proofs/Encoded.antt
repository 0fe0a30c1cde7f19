-- The law of sheets at an accepted sheet.
use Rattle.std.proofs.Common.{sym, subst}
use Rattle.sheet_format.specs.Law.{Law, Encodes}
use Rattle.sheet_law.proofs.Laws.{law_at}
use Rattle.sheet.specs.declared.accepted.Accepted.{Accepted}

pub encoded : (s : Accepted) → Encodes s.bytes.now s.found
encoded s = subst (Law s.bytes.now) (sym s.accepted) (law_at s.bytes.now s.low)
