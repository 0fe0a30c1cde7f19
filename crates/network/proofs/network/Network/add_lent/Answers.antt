use Rattle.std.proofs.Common.{◌≤◌, ◌++◌, length, drop, subst, arith}
use Rattle.network.specs.declared.law.Answer.TheVariants.{Changed}
use Rattle.network.specs.Calls.{adds}
use Rattle.network.specs.Performs.{TookLent, answer_by, buffers}
use Rattle.network.proofs.Lending.{lent_lengths, part_lent, past_part, same_part}
use Rattle.network.proofs.network.Network.add_lent.Goals as goal

pub returns-clause-performs : goal.returns-clause-performs
returns-clause-performs g c stands =
    let w = c.args.waiting.now in
    let v = c.args.returning.now in
    let k = c.cut-part.result.waiting in
    let l = c.cut-part.result.returning in
    let did = c.add in
    let m = g.C.Catalog.meaning c.args.self.now.catalog in
    let answer = answer_by Changed did.result in
    subst (λ lengths. TookLent m c.args.self.now.state (buffers w v) (adds c.args.constraint lengths) answer did.new.self.state (buffers (did.new.waiting ++ drop k w) (did.new.returning ++ drop l v)))
    (lent_lengths w v k l c.args.lent c.cut-part.ensures.waiting c.cut-part.ensures.returning)
    (part_lent m c.args.self.now.state did.new.self.state _ answer w did.new.waiting v did.new.returning k l
    (omega (arith, c.cut-part.ensures.waiting)) (omega (arith, c.cut-part.ensures.returning)) (did.ensures.performs stands))

pub returns-clause-past : goal.returns-clause-past
returns-clause-past g c =
    past_part 128 c.cut-part.result.waiting c.args.waiting.now c.add.new.waiting (omega (arith, c.cut-part.ensures.waiting)) c.add.ensures.past

pub returns-clause-past_returning : goal.returns-clause-past_returning
returns-clause-past_returning g c = same_part c.cut-part.result.returning c.args.returning.now c.add.new.returning c.add.ensures.returning
