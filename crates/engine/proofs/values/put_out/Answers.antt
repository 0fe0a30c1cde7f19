use Rattle.std.proofs.Common.{refl}
use Rattle.domains.proofs.Values.{put_out, out_total, sets_others, without}
use Rattle.engine.proofs.values.put_out.Goals as goal

pub returns : goal.returns
returns c =
    let d = c.args.d.now in
    let i = c.args.at.variable in
    let x = c.args.at.value in
    record {
      put = put_out d i x c.args.at.variable_low c.args.at.value_low c.reason-why.result c.args.constraint c.reason-why.ensures c.requires.was;
      clock = refl;
      fewer = out_total d i x c.args.at.variable_low c.args.at.value_low c.reason-why.result c.requires.was;
      others = sets_others d i x c.args.at.variable_low c.args.at.value_low _;
    }

pub invariant_of-d : goal.invariant_of-d
invariant_of-d c =
    let e = without c.args.d.now c.args.at.variable c.args.at.value c.args.at.variable_low c.args.at.value_low c.reason-why.result in
    record { sets_long = e.sets_long; why_long = e.why_long; each_why_long = e.each_why_long; wide = e.wide }
