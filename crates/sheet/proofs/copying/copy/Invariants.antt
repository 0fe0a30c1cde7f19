use Rattle.std.proofs.Common.{◌≡◌, length}
use Rattle.sheet.proofs.Copies.{Copying}
use Rattle.sheet.proofs.copying.copy.Given as goal

-- the records before what is left were put, and the writer has come as far
abbrev pub invariant-loop-place : goal.invariant-loop-place
invariant-loop-place l = Copying l.sheet l.fn.buffer l.writer l.left.bytes.now l.buffer × (l.left.place ≡ l.writer.place)

abbrev pub decreases-loop-place : goal.decreases-loop-place
decreases-loop-place l = length l.left.bytes.now
