use Rattle.std.proofs.Common.{◌≡◌, ◌<◌, length, take, ◌∙◌, arith, rules}
use Rattle.std.proofs.lemmas.Grind.{take_at_read}
use Rattle.std.proofs.lemmas.List.{length-take-le, length-set, take_more_set}
use Rattle.sheet_format.specs.Writing.{new_writer}
use Rattle.sheet.specs.declared.calls.Call.TheVariants.{Heading}
use Rattle.sheet.proofs.Standing.{taken_more, past_set}
use Rattle.sheet.proofs.calls.write.Goals as goal

pub loop-i-preserved : goal.loop-i-preserved
loop-i-preserved c =
    let inv = c.loop-i.invariant in
    let i = c.loop-i.i in
    let calls = take c.min-there.result c.args.calls.now in
    let there : length calls ≡ c.min-there.result = length-take-le c.min-there.result c.args.calls.now (omega (arith, c.min-there.ensures)) in
    let low : i < length calls = search rules in
    let left : i < length c.loop-i.answers = omega (arith, low, there, inv.long, c.min-there.ensures) in
    let more = taken_more new_writer c.args.buffer.now calls i (take i c.loop-i.answers) _ c.loop-i.writer c.loop-i.buffer _ c.make.result c.make.new.self c.make.new.buffer
    (take_at_read calls i (Heading 0) low).1 (take_more_set c.loop-i.answers i c.make.result left) inv.runs inv.stands c.make.ensures.call c.make.ensures.stands in
    record {
      runs = more.0;
      stands = more.1;
      long = length-set c.loop-i.answers i c.make.result ∙ inv.long;
      others = past_set i c.args.answers.now c.loop-i.answers c.make.result inv.others;
    }
