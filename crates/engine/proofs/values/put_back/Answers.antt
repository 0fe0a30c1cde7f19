use Rattle.std.proofs.Common.{refl}
use Rattle.domains.proofs.Values.{put_back, back_total, sets_others, with_value}
use Rattle.engine.proofs.values.put_back.Goals as goal

pub returns : goal.returns
returns c =
    let d = c.args.d.now in
    record {
      put = put_back d c.args.at.variable c.args.at.value c.args.at.variable_low c.args.at.value_low c.requires.was;
      clock = refl;
      why = refl;
      more = back_total d c.args.at.variable c.args.at.value c.args.at.variable_low c.args.at.value_low c.requires.was;
      others = sets_others d c.args.at.variable c.args.at.value c.args.at.variable_low c.args.at.value_low _;
    }

pub invariant_of-d : goal.invariant_of-d
invariant_of-d c =
    let e = with_value c.args.d.now c.args.at.variable c.args.at.value c.args.at.variable_low c.args.at.value_low in
    record { sets_long = e.sets_long; why_long = e.why_long; each_why_long = e.each_why_long; wide = e.wide }
