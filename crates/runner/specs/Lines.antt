-- What is printed of a run.
use Rattle.std.specs.Prelude.{ℕ, suc, List, [], ◌∷◌, ◌++◌, Ok, Err, Result, codes, decimal, vec_items}
use Rattle.network.specs.declared.law.Change.{Change}
use Rattle.network.specs.Text.{change_text}
use Rattle.bits.specs.Text.{values_text}
use Rattle.catalog.specs.Text.{refusal_text}
use Rattle.sheet_format.specs.Lines.{fault_line}
use Rattle.sheet.specs.declared.sheet_move.Move.{Move}
use Rattle.sheet.specs.Text.{move_text}
use Rattle.runner.specs.declared.faults.RunFault.{RunFault}
use Rattle.runner.specs.declared.faults.RunFault.TheVariants as run
use Rattle.runner.specs.declared.reports.Report.{Report}

-- a variable and its values, or `none`
abbrev pub domain_line : ℕ → ℕ → List ℕ
domain_line variable domain = codes "at " ++ (decimal variable ++ values_text domain)

-- a fault of a run: as that of the sheet, or as the refusal of the move
abbrev pub fault_text : RunFault → List ℕ
fault_text (run.Sheet f) = fault_line f
fault_text (run.Move f) = refusal_text f.refusal
fault_text run.Memory = codes "no memory for the run"

-- a move and what came of it
abbrev pub move_line : Move → Result Change RunFault → List ℕ
move_line m (Ok c) = move_text m ++ (codes " " ++ change_text c)
move_line m (Err f) = move_text m ++ (codes " " ++ fault_text f)

-- a line and its newline
abbrev pub ended : List ℕ → List ℕ
ended line = line ++ codes "\n"

-- a line for each move and what came of it, in order, as far as both lists go
abbrev pub moves_text : List Move → List (Result Change RunFault) → List ℕ
moves_text (m ∷ moves) (o ∷ outcomes) = ended (move_line m o) ++ moves_text moves outcomes
moves_text (m ∷ moves) [] = []
moves_text [] outcomes = []

-- a line for each variable, in order, the first of which has this number
abbrev pub domains_text : ℕ → List ℕ → List ℕ
domains_text variable (d ∷ domains) = ended (domain_line variable d) ++ domains_text (suc variable) domains
domains_text variable [] = []

-- the moves, then the variables
abbrev pub report_text : Report → List ℕ
report_text r = moves_text (vec_items r.moves) (vec_items r.outcomes) ++ domains_text 0 (vec_items r.domains)
