use Rattle.std.proofs.Common.{◌≡◌, suc, ◌+◌, ◌-◌, ◌*◌, ◌≤◌, length}
use Rattle.sheet_format.specs.Verdict.{walked, nothing_yet}
use Rattle.sheet.proofs.checking.walk_through.Given as goal

-- the records that are left decide as all of them do
abbrev pub invariant-loop-summary : goal.invariant-loop-summary
invariant-loop-summary l =
    let progress = l.walk.progress in
    let input = l.walk.input.now in
    let place = l.walk.place in
    let records = l.walk.records in
    (walked (suc (length l.sheet) - records) input place records progress ≡ walked (suc (length l.sheet)) l.sheet 0 0 nothing_yet)
    × (place + length input ≡ length l.sheet)
    × (4 * records ≤ place)
    × (progress.moves ≤ records)

abbrev pub decreases-loop-summary : goal.decreases-loop-summary
decreases-loop-summary l = length l.walk.input.now
