use Rattle.std.proofs.Common.{◌≡◌, ◌∷◌, ◌*◌, ◌+◌, length, take}
use Rattle.std.specs.List.{flat_map}
use Rattle.sheet_format.specs.Numbers.{eight}
use Rattle.sheet.proofs.writer.table_body.Given as goal

-- the ends, and the rows so far
abbrev pub invariant-loop-row : goal.invariant-loop-row
invariant-loop-row l =
    (l.body.items ≡ l.left ∷ (l.right ∷ flat_map eight (take l.row-index l.rows)))
    × (length l.body.items ≡ 2 + 8 * l.row-index)
