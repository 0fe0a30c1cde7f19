use Rattle.std.proofs.Common.{sym}
use Rattle.catalog.specs.Renumbered.{entries_apart, is_numbering}
use Rattle.catalog.proofs.numbering.Numbering.at.Goals as goal

pub returns-clause-apart : goal.returns-clause-apart
returns-clause-apart c = λ k h ne q. entries_apart c.args.self.now.to (is_numbering c.args.self.now) c.args.e k c.requires h (λ s. ne (sym s)) q
