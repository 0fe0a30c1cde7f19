use Rattle.std.proofs.Common.{◌≡◌, length, Err, refl, sym, ap, ◌∙◌, subst, arith}
use Rattle.std.proofs.lemmas.List.{length-drop}
use Rattle.std.proofs.lemmas.Result.{err_from_is_err_and}
use Rattle.sheet_format.specs.Numbers.{number2}
use Rattle.sheet_format.specs.Reading.{taken}
use Rattle.sheet.specs.Outcome.{Taken, shown_by}
use Rattle.sheet.proofs.Unknown.{known_record, unknown_record}
use Rattle.sheet.proofs.reader.take_record.Goals as goal

pub returns-in_err-kind : goal.returns-in_err-kind
returns-in_err-kind c =
    let xs = c.args.input.now in
    let length_is : c.word-length.result ≡ number2 xs 0 = c.word-length.ensures in
    let kind_is : c.word.result ≡ number2 xs 2 = c.word.ensures in
    let p = err_from_is_err_and c.from_residual.result c.from_residual.ensures.1 in
    subst (Taken xs c.args.place) (sym (p.1 ∙ ap Err (p.2 ∙ c.in_err-kind.ensures.0)))
    (unknown_record xs c.args.place c.word-length.result c.word.result (omega arith) length_is c.if-length-lt4.false c.if-length-input.false kind_is c.in_err-kind.ensures.1)

pub returns : goal.returns
returns c =
    let xs = c.args.input.now in
    let length_is : c.word-length.result ≡ number2 xs 0 = c.word-length.ensures in
    let kind_is : c.word.result ≡ number2 xs 2 = c.word.ensures in
    let n = c.word-length.result in
    let left = c.rest_after.ensures.left in
    record {
      reads =
          known_record xs c.args.place n _ c.word.result _ (shown_by c.record_of-record.result) (omega arith) length_is c.if-length-lt4.false c.if-length-input.false kind_is c.in_ok-kind.ensures refl c.record_of-record.ensures
          ∙ ap (taken (shown_by c.record_of-record.result)) (sym left);
      next = (let l = ap length left ∙ length-drop n xs in omega (arith, c.rest_after.ensures.next));
    }
