use Rattle.std.proofs.Common.{◌≡◌, ◌+◌, not, length, Ok, Err, refl, sym, ap, ◌∙◌, subst, arith, rules}
use Rattle.std.proofs.lemmas.Result.{err_from_is_err_and}
use Rattle.sheet_format.specs.Kinds.{kind_number}
use Rattle.sheet_format.specs.Encoding.{framed}
use Rattle.sheet_format.specs.Writing.{put, Puts}
use Rattle.sheet.specs.Steps.{next_step, Became}
use Rattle.sheet.proofs.Entries.{some_shown}
use Rattle.sheet.proofs.Putting.{put_fits}
use Rattle.sheet.proofs.writer.Writer.put.Goals as goal

pub returns-in_err-next : goal.returns-in_err-next
returns-in_err-next c =
    let z = some_shown c.args.kind c.args.body.now c.args.self.now.place in
    let p = err_from_is_err_and c.from_residual.result c.from_residual.ensures.1 in
    let bytes = framed (record { kind = kind_number c.args.kind; body = c.args.body.now }) in
    let long : 4 + length c.args.body.now ≡ length bytes = omega arith in
    let so = subst (λ n. put c.args.self.now (length c.args.buffer.now) z.shows n ≡ Err c.in_err-next.field-0.0) long (c.in_err-next.ensures.judged z.shows z.is) in
    (z.shows, z.is, subst (Puts c.args.self.now c.args.buffer.now z.shows bytes c.args.self.now c.args.buffer.now) (sym (p.1 ∙ ap Err p.2)) (so, refl, refl))

pub returns : goal.returns
returns c =
    let z = some_shown c.args.kind c.args.body.now c.args.self.now.place in
    let p = c.args.self.now in
    let size = length c.args.buffer.now in
    let after = c.in_ok-next.after in
    let fits_ok = c.in_ok-next.ensures.long in
    let long : 4 + length c.args.body.now ≡ length (framed (record { kind = kind_number c.args.kind; body = c.args.body.now })) = omega arith in
    let became = subst (λ q. Became q.tally (next_step q.tally c.in_ok-next.after c.in_ok-next.next) c.take.new.self) c.self.view_is c.take.ensures in
    let fits = put_fits p size (4 + length c.args.body.now) after z.shows fits_ok.0 fits_ok.1 c.in_ok-next.next c.take.new.self c.is_end.result c.is_end.ensures (c.in_ok-next.ensures.judged z.shows z.is) became fits_ok.2 in
    (z.shows, z.is, (subst (λ n. put p size z.shows n ≡ Ok (record { tally = c.take.new.self; place = after; is_open = not c.is_end.result })) long fits, refl, search rules))
