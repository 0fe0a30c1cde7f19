use Rattle.std.proofs.Common.{refl}
use Rattle.domains.proofs.Facing.{facing_left, facing_right}
use Rattle.engine.proofs.revise.arc_at.Goals as goal

pub returns-then-left-variable : goal.returns-then-left-variable
returns-then-left-variable c =
    (facing_left c.args.c.now c.args.constraint c.requires.shape c.requires.low c.if-not-c-constraint.false, c.if-left-variable.true, refl)

pub returns-then-right-variable : goal.returns-then-right-variable
returns-then-right-variable c =
    (facing_right c.args.c.now c.args.constraint c.requires.shape c.requires.low c.if-not-c-constraint.false, c.if-right-variable.true, refl)
