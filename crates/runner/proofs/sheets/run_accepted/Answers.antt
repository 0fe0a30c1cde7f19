use Rattle.std.proofs.Common.{vec_items, subst}
use Rattle.std.proofs.lemmas.Result.{IfOk-weaker}
use Rattle.sheet_catalog.specs.Sizes.{listed}
use Rattle.runner.specs.Ran.{Ran}
use Rattle.runner.proofs.Printing.{accepted_ok}
use Rattle.runner.proofs.sheets.run_accepted.Goals as goal

pub returns : goal.returns
returns c =
    IfOk-weaker c.run_moves.result _ _
    (λ report ran. record {
      accepted = accepted_ok c.args.sheet.now;
      sizes = listed c.of.result;
      sized = c.of.ensures;
      good = c.of.result.good;
      moves = vec_items c.in_ok-moves.moves;
      moved = c.in_ok-moves.ensures;
      ran = subst (λ m. Ran m (listed c.of.result) (vec_items c.in_ok-moves.moves) report) c.combined_of.ensures ran;
    })
    c.run_moves.ensures
