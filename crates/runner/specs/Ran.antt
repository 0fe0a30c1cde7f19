-- What a run gives.
use Rattle.std.specs.Prelude.{◌≡◌, ℕ, true, List, ◌∷◌, ◌++◌, length, map, None, Err, count_by, is_err, is_ok, vec_items}
use Rattle.catalog.specs.Meaning.{Meaning}
use Rattle.network.specs.declared.law.Answer.{Answer}
use Rattle.network.specs.declared.law.Answer.TheVariants.{Opened, Domain}
use Rattle.network.specs.Buffers.{Buffers}
use Rattle.network.specs.History.{Run}
use Rattle.network.specs.Moment.{Moment}
use Rattle.catalog.specs.Causes.{sizes_refusal}
use Rattle.sheet_format.specs.Decoding.{decode}
use Rattle.sheet_format.specs.Verdict.{Verdict, verdict}
use Rattle.sheet_catalog.specs.Meant.{sheet_in}
use Rattle.sheet_catalog.specs.Placed.{SizesOf}
use Rattle.sheet.specs.Moves.{move_of}
use Rattle.sheet.specs.declared.sheet_move.Move.{Move}
use Rattle.sheet_catalog.specs.Combined.{combined_of}
use Rattle.runner.specs.declared.faults.RunFault.{RunFault}
use Rattle.runner.specs.declared.faults.RunFault.TheVariants as fault
use Rattle.runner.specs.declared.reports.Report.{Report}
use Rattle.runner.specs.Runs.{calls_for, Outcomes}

-- The moves were made: the network was opened, each move answered, and each variable's domain asked for and given, all by the law of networks; the
-- outcomes are those of the answers to the moves, one for each, a refused one with its place; there is a domain for each variable; and so many moves were
-- refused.
pub record Ran (m : Meaning) (sizes : List ℕ) (moves : List Move) (report : Report) : Type 0 where
  pub kept : vec_items report.moves ≡ moves
  -- the answers to the moves
  pub answers : List Answer
  -- the buffers that each call is lent whole
  pub lent : Buffers
  pub long : (length lent.waiting ≡ 128) × (length lent.returning ≡ 2048)
  pub last : Moment
  pub left : Buffers
  pub run : Run m lent (calls_for sizes moves) ((Opened ∷ answers) ++ map Domain (vec_items report.domains)) last left
  pub outcomes : Outcomes 0 answers (vec_items report.outcomes)
  pub each_move : length (vec_items report.outcomes) ≡ length moves
  pub each_variable : length (vec_items report.domains) ≡ length sizes
  pub refused : report.refused ≡ count_by is_err (vec_items report.outcomes)

-- The sheet is accepted and ran: with the sizes that it gives, which a network takes, and the moves that it encodes, on the combined catalog of its constraints and the house's.
pub record SheetRan (bytes : List ℕ) (report : Report) : Type 0 where
  pub accepted : is_ok (verdict bytes) ≡ true
  pub sizes : List ℕ
  pub sized : SizesOf (sheet_in bytes) sizes
  pub good : sizes_refusal sizes ≡ None
  pub moves : List Move
  pub moved : map move_of moves ≡ (decode bytes).moves
  pub ran : Ran (combined_of bytes) sizes moves report

-- no run: the sheet is refused by its verdict, or memory is wanting for one that is accepted; never for a move
abbrev pub Stopped : Verdict → RunFault → Type 0
Stopped v (fault.Sheet f) = v ≡ Err f
Stopped v (fault.Move f) = ⊥
Stopped v fault.Memory = is_ok v ≡ true
