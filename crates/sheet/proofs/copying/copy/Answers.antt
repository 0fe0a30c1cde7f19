use Rattle.std.proofs.Common.{◌≡◌, ◌<◌, ◌≤◌, length, Err, sym, ap, ◌∙◌, subst, arith, rules}
use Rattle.std.proofs.ByRecursion.{All-from_get_or}
use Rattle.std.proofs.lemmas.Bool.{eqb-false}
use Rattle.std.proofs.lemmas.Result.{err_from_is_err_and}
use Rattle.sheet.specs.Outcome.{shown_by, Answers}
use Rattle.sheet.specs.Copying.{Copied}
use Rattle.sheet.proofs.Answered.{left_shorter}
use Rattle.sheet.proofs.Copies.{Copying, start, readable, read_off, place_low, sayable, copied_ok, copied_err}
use Rattle.sheet.proofs.copying.copy.Goals as goal

pub loop-place-init : goal.loop-place-init
loop-place-init c = (
  subst (λ p. Copying c.args.sheet.now c.args.buffer.now p c.args.sheet.now c.args.buffer.now) (sym c.requires.fresh)
      (start c.args.sheet.now c.args.buffer.now c.requires.accepted (All-from_get_or (λ b. b < 256) c.args.sheet.now 0 (λ i _. (c.type_inv.sheet i).fits))),
  sym (ap (λ p. p.place) c.requires.fresh),
)

pub overflow_cast-left : goal.overflow_cast-left
overflow_cast-left c = let low = place_low _ _ _ _ _ c.loop-place.invariant.0 in record { fits = omega (arith, c.loop-place.invariant.1) }

pub unwrap-requires : goal.unwrap-requires
unwrap-requires c =
    readable _ _ _ _ _ c.loop-place.invariant.0 c.read_record.result (subst (λ n. Answers c.loop-place.left.bytes.now n c.read_record.result) c.loop-place.invariant.1 c.read_record.ensures)

pub put_record-requires : goal.put_record-requires
put_record-requires c =
    let t = read_off c.loop-place.writer c.loop-place.left _ c.unwrap.result c.loop-place.invariant.1 c.read_record.ensures c.unwrap.ensures in
    sayable _ _ _ _ _ c.loop-place.invariant.0 _ _ t.reads

pub returns-in_err-place : goal.returns-in_err-place
returns-in_err-place c =
    let t = read_off c.loop-place.writer c.loop-place.left _ c.unwrap.result c.loop-place.invariant.1 c.read_record.ensures c.unwrap.ensures in
    let p = err_from_is_err_and c.from_residual.result c.from_residual.ensures.1 in
    subst (Copied c.args.sheet.now c.args.buffer.now c.put_record.new.buffer) (sym (p.1 ∙ ap Err p.2)) (copied_err _ _ _ _ _ c.loop-place.invariant.0 _ _ t.reads c.put_record.new.writer c.put_record.new.buffer _ c.in_err-place.ensures)

pub returns-then-is_empty : goal.returns-then-is_empty
returns-then-is_empty c =
    let t = read_off c.loop-place.writer c.loop-place.left _ c.unwrap.result c.loop-place.invariant.1 c.read_record.ensures c.unwrap.ensures in
    let none : length c.unwrap.result.1.bytes.now ≡ 0 = search rules in
    (copied_ok _ _ _ _ _ c.loop-place.invariant.0 _ _ t.reads c.put_record.new.writer c.put_record.new.buffer c.in_ok-place.place c.in_ok-place.ensures).0 none

pub loop-place-preserved : goal.loop-place-preserved
loop-place-preserved c =
    let t = read_off c.loop-place.writer c.loop-place.left _ c.unwrap.result c.loop-place.invariant.1 c.read_record.ensures c.unwrap.ensures in
    let more = eqb-false (length c.unwrap.result.1.bytes.now) 0 (sym c.is_empty.ensures ∙ c.if-is_empty.false) in
    let some : 1 ≤ length c.unwrap.result.1.bytes.now = omega arith in
    let on = (copied_ok _ _ _ _ _ c.loop-place.invariant.0 _ _ t.reads c.put_record.new.writer c.put_record.new.buffer c.in_ok-place.place c.in_ok-place.ensures).1 some in
    (on.0, t.next ∙ sym on.1)

pub loop-place-smaller : goal.loop-place-smaller
loop-place-smaller c =
    let t = read_off c.loop-place.writer c.loop-place.left _ c.unwrap.result c.loop-place.invariant.1 c.read_record.ensures c.unwrap.ensures in
    let shorter = left_shorter c.loop-place.left.bytes.now c.loop-place.writer.place (shown_by c.unwrap.result.0) c.unwrap.result.1.bytes.now t.reads in
    omega arith
