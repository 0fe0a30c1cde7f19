use Rattle.std.proofs.Common.{rules}
use Rattle.std.proofs.Output.{has_written_append, has_written_of_eq}
use Rattle.bits.specs.Text.{values_below}
use Rattle.bits.proofs.Texts.{value_shown, value_passed}
use Rattle.bits.proofs.values.ValuesDisplay.fmt.Goals as goal
use Rattle.bits.proofs.values.ValuesDisplay.fmt.Goals.{then-has+in_ok-write, else-has}

pub loop-x-init : goal.loop-x-init
unfolding values_below
loop-x-init g c = search rules

pub loop-x-preserved : goal.loop-x-preserved
loop-x-preserved g c =
    elim c.if-has.branch [
      | then-has+in_ok-write w ↦
          λ p. has_written_of_eq _ _ _ _ _ (value_shown c.args.self.now.0 c.loop-x.x-counter (search rules)) (has_written_append _ _ _ _ _ _ (c.loop-x.invariant p) (search rules))
      | else-has w ↦ λ p. has_written_of_eq _ _ _ _ _ (value_passed c.args.self.now.0 c.loop-x.x-counter (search rules)) (search rules)
    ]
