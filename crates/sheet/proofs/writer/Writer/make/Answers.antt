use Rattle.std.proofs.Common.{List, ◌++◌, refl, sym, subst}
use Rattle.sheet_format.specs.Value.{sum, table, add, retract}
use Rattle.sheet_format.specs.Writing.{heads, has_variable, has_constraint, has_move, ends_here}
use Rattle.sheet.specs.Calls.{asked, Makes, Placed, one_put, Stands}
use Rattle.sheet.proofs.Standing.{stands_more, stands_abandoned}
use Rattle.sheet.proofs.writer.Writer.make.Goals as goal

pub returns-in-Heading-clause-stands : goal.returns-in-Heading-clause-stands
returns-in-Heading-clause-stands c =
    subst (λ o. (entries : List Placed) → Stands entries c.args.self.now c.args.buffer.now → Stands (entries ++ one_put (asked o) c.heading.result) c.heading.new.self c.heading.new.buffer) (sym c.in-Heading.is)
    (stands_more (heads c.in-Heading.n) c.args.self.now c.args.buffer.now c.heading.new.self c.heading.new.buffer c.heading.result c.heading.ensures.call c.heading.ensures.written)

pub returns-in-Variable-clause-stands : goal.returns-in-Variable-clause-stands
returns-in-Variable-clause-stands c =
    subst (λ o. (entries : List Placed) → Stands entries c.args.self.now c.args.buffer.now → Stands (entries ++ one_put (asked o) c.variable.result) c.variable.new.self c.variable.new.buffer) (sym c.in-Variable.is)
    (stands_more (has_variable c.in-Variable.variable) c.args.self.now c.args.buffer.now c.variable.new.self c.variable.new.buffer c.variable.result c.variable.ensures.call c.variable.ensures.written)

pub returns-in-Sum-clause-stands : goal.returns-in-Sum-clause-stands
returns-in-Sum-clause-stands c =
    subst (λ o. (entries : List Placed) → Stands entries c.args.self.now c.args.buffer.now → Stands (entries ++ one_put (asked o) c.sum.result) c.sum.new.self c.sum.new.buffer) (sym c.in-Sum.is)
    (stands_more (has_constraint (sum c.in-Sum.left c.in-Sum.right c.in-Sum.formula.m c.in-Sum.formula.k c.in-Sum.formula.lo c.in-Sum.formula.hi)) c.args.self.now c.args.buffer.now c.sum.new.self c.sum.new.buffer c.sum.result c.sum.ensures.call c.sum.ensures.written)

pub returns-in-Table-clause-stands : goal.returns-in-Table-clause-stands
returns-in-Table-clause-stands c =
    subst (λ o. (entries : List Placed) → Stands entries c.args.self.now c.args.buffer.now → Stands (entries ++ one_put (asked o) c.table.result) c.table.new.self c.table.new.buffer) (sym c.in-Table.is)
    (stands_more (has_constraint (table c.in-Table.left c.in-Table.right c.in-Table.rows.now)) c.args.self.now c.args.buffer.now c.table.new.self c.table.new.buffer c.table.result c.table.ensures.call c.table.ensures.written)

pub returns-in-Add-clause-stands : goal.returns-in-Add-clause-stands
returns-in-Add-clause-stands c =
    subst (λ o. (entries : List Placed) → Stands entries c.args.self.now c.args.buffer.now → Stands (entries ++ one_put (asked o) c.add.result) c.add.new.self c.add.new.buffer) (sym c.in-Add.is)
    (stands_more (has_move (add c.in-Add.index)) c.args.self.now c.args.buffer.now c.add.new.self c.add.new.buffer c.add.result c.add.ensures.call c.add.ensures.written)

pub returns-in-Retract-clause-stands : goal.returns-in-Retract-clause-stands
returns-in-Retract-clause-stands c =
    subst (λ o. (entries : List Placed) → Stands entries c.args.self.now c.args.buffer.now → Stands (entries ++ one_put (asked o) c.retract.result) c.retract.new.self c.retract.new.buffer) (sym c.in-Retract.is)
    (stands_more (has_move (retract c.in-Retract.index)) c.args.self.now c.args.buffer.now c.retract.new.self c.retract.new.buffer c.retract.result c.retract.ensures.call c.retract.ensures.written)

pub returns-in-End-clause-stands : goal.returns-in-End-clause-stands
returns-in-End-clause-stands c =
    subst (λ o. (entries : List Placed) → Stands entries c.args.self.now c.args.buffer.now → Stands (entries ++ one_put (asked o) c.end.result) c.end.new.self c.end.new.buffer) (sym c.in-End.is)
    (stands_more (ends_here) c.args.self.now c.args.buffer.now c.end.new.self c.end.new.buffer c.end.result c.end.ensures.call c.end.ensures.written)

pub returns-in-Sum-clause-call : goal.returns-in-Sum-clause-call
returns-in-Sum-clause-call c =
    subst (λ o. Makes c.args.self.now c.args.buffer.now (asked o) c.sum.new.self c.sum.new.buffer c.sum.result) (sym c.in-Sum.is) c.sum.ensures.call

pub returns-in-Abandon-clause-stands : goal.returns-in-Abandon-clause-stands
returns-in-Abandon-clause-stands c =
    subst (λ o. (entries : List Placed) → Stands entries c.args.self.now c.args.buffer.now → Stands (entries ++ one_put (asked o) c.abandon.result) c.abandon.new.self c.args.buffer.now) (sym c.in-Abandon.is)
    (stands_abandoned c.args.self.now c.args.buffer.now c.abandon.new.self c.args.buffer.now c.abandon.result c.abandon.ensures.call refl)
