-- What a queue keeps of its buffer over one call after another.
use Rattle.std.proofs.Common.{drop, sym, ap, ◌∙◌}
use Rattle.engine.specs.declared.fifo.Queue.{Queue}
use Rattle.engine.specs.Waiting.{Kept}

pub kept_trans : {T : Type 0} (q q' q'' : Queue T) → Kept q q' → Kept q' q'' → Kept q q''
kept_trans q q' q'' a b =
    record {
      same = b.same ∙ a.same;
      limit = b.limit ∙ a.limit;
      long = b.long ∙ a.long;
      rest = ap (λ n. drop n q''.buffer.now) (sym a.limit) ∙ b.rest ∙ ap (λ n. drop n q'.buffer.now) a.limit ∙ a.rest;
    }
