use Rattle.std.proofs.Common.{refl, arith, rules}
use Rattle.sheet.proofs.Answered.{admitted}
use Rattle.sheet.proofs.checking.Walk.advance.Goals as goal

pub invariant_of-self-in-Continue : goal.invariant_of-self-in-Continue
invariant_of-self-in-Continue c =
    let w = c.args.self.now in
    let a = admitted w c.read_record.result c.in_ok-taken.taken c.in_ok-taken.rest c.admit.new.self c.read_record.ensures c.in_ok-taken.ensures (search rules) in
    record {
      short = omega (arith, a.next, w.short);
      counted = omega (arith, a.shorter, a.next, w.counted);
      few = omega (arith, a.moves, w.few);
    }

pub returns-in-Continue : goal.returns-in-Continue
returns-in-Continue c =
    let w = c.args.self.now in
    let a = admitted w c.read_record.result c.in_ok-taken.taken c.in_ok-taken.rest c.admit.new.self c.read_record.ensures c.in_ok-taken.ensures (search rules) in
    rw (c.in-Continue.is) (record { goes_on = a.goes_on; counted = refl; same_end = omega (arith, a.shorter, a.next); further = a.shorter })
