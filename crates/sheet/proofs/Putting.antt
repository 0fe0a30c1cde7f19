-- What a judged record makes of a writer.
use Rattle.std.proofs.Common.{◌≡◌, ℕ, ◌+◌, ◌≤◌, Bool, true, false, cond, not, Ok, Err, Result, sym, refl, ap, ◌∙◌, subst, arith}
use Rattle.sheet_format.specs.declared.writing.WriteFault.{WriteFault}
use Rattle.sheet_format.specs.declared.writing.WriteFault.TheVariants.{ShortBuffer, Closed}
use Rattle.sheet_format.specs.Reading.{Shown}
use Rattle.sheet_format.specs.Verdict.{Tally, Step, step}
use Rattle.sheet_format.specs.Writing.{WriterState, lies_in, put_step, put}
use Rattle.sheet.specs.declared.progress.Next.{Next}
use Rattle.sheet.specs.declared.progress.Next.TheVariants.{Heading, Variable, Constraint, Move, End}
use Rattle.sheet.specs.Steps.{is_end, kept, next_step, Fits, Became}
use Rattle.sheet.specs.Sizes.{SizesLow}
use Rattle.sheet.proofs.Limits.{low_push}

opened : (p : WriterState) (b : Bool) (r s : Result WriterState WriteFault) → b ≡ true → r ≡ s → cond b r (Err Closed) ≡ s
opened p true r s e f = f
opened p false r s e f = absurd (let z : ◌≡◌ {A = ℕ} 0 1 = cc in omega arith)

-- a record that fits, and one that does not
fits_ok : (b : Bool) (r : WriterState) → b ≡ true → ◌≡◌ {A = Result WriterState WriteFault} (cond b (Ok r) (Err ShortBuffer)) (Ok r)
fits_ok true r e = refl
fits_ok false r e = absurd (let z : ◌≡◌ {A = ℕ} 0 1 = cc in omega arith)

short : (b : Bool) (r : WriterState) → b ≡ false → ◌≡◌ {A = Result WriterState WriteFault} (cond b (Ok r) (Err ShortBuffer)) (Err ShortBuffer)
short false r e = refl
short true r e = absurd (let z : ◌≡◌ {A = ℕ} 0 1 = cc in omega arith)

fits_step : (p : WriterState) (size after : ℕ) (next : Next) (h : Tally) → Became p.tally (next_step p.tally after next) h → lies_in size (after + kept next) ≡ true
    → put_step p size after (next_step p.tally after next) ≡ Ok (record { tally = h; place = after; is_open = not (is_end next) })
fits_step p size after (Heading n) h became fits = fits_ok _ _ fits ∙ ap (λ g. Ok (record { tally = g; place = after; is_open = true })) (sym became)
fits_step p size after (Variable v) h became fits = fits_ok _ _ fits ∙ ap (λ g. Ok (record { tally = g; place = after; is_open = true })) (sym became)
fits_step p size after Constraint h became fits = fits_ok _ _ fits ∙ ap (λ g. Ok (record { tally = g; place = after; is_open = true })) (sym became)
fits_step p size after Move h became fits = fits_ok _ _ fits ∙ ap (λ g. Ok (record { tally = g; place = after; is_open = true })) (sym became)
fits_step p size after End h became fits =
    fits_ok (lies_in size after) _ (subst (λ n. lies_in size n ≡ true) (omega arith) fits) ∙ ap (λ g. Ok (record { tally = g; place = after; is_open = false })) (sym became)

short_step : (p : WriterState) (size after : ℕ) (next : Next) → lies_in size (after + kept next) ≡ false → put_step p size after (next_step p.tally after next) ≡ Err ShortBuffer
short_step p size after (Heading n) fits = short _ _ fits
short_step p size after (Variable v) fits = short _ _ fits
short_step p size after Constraint fits = short _ _ fits
short_step p size after Move fits = short _ _ fits
short_step p size after End fits = short (lies_in size after) _ (subst (λ n. lies_in size n ≡ false) (omega arith) fits)

-- at most one move more
pub became_moves : (g h : Tally) (after : ℕ) (next : Next) → Became g (next_step g after next) h → h.moves ≤ g.moves + 1
became_moves g h after (Heading n) e = let m = ap (λ t. t.moves) e in omega arith
became_moves g h after (Variable v) e = let m = ap (λ t. t.moves) e in omega arith
became_moves g h after Constraint e = let m = ap (λ t. t.moves) e in omega arith
became_moves g h after Move e = let m = ap (λ t. t.moves) e in omega arith
became_moves g h after End e = let m = ap (λ t. t.moves) e in omega arith

-- no variable of more than 64 values comes
pub became_low : (g h : Tally) (after : ℕ) (next : Next) → Became g (next_step g after next) h → Fits g next → SizesLow g.variables → SizesLow h.variables
became_low g h after (Heading n) e fits low = subst (λ t. SizesLow t.variables) (sym e) low
became_low g h after (Variable v) e fits low = subst (λ t. SizesLow t.variables) (sym e) (low_push g.variables v low fits.1)
became_low g h after Constraint e fits low = subst (λ t. SizesLow t.variables) (sym e) low
became_low g h after Move e fits low = subst (λ t. SizesLow t.variables) (sym e) low
became_low g h after End e fits low = subst (λ t. SizesLow t.variables) (sym e) low

-- a record of so many bytes that ends before a place
module _ (p : WriterState) (size long after : ℕ) (s : Shown) (is_open : p.is_open ≡ true) (at : after ≡ p.place + long) where
  by_step : (st : Step) (r : Result WriterState WriteFault) → step p.tally s after ≡ st → put_step p size after st ≡ r → put p size s long ≡ r
  by_step st r judged e = opened p p.is_open _ r is_open (subst (λ n. put_step p size n (step p.tally s n) ≡ r) at (ap (put_step p size after) judged ∙ e))

  pub put_fits : (next : Next) (h : Tally) (last : Bool) → last ≡ is_end next → step p.tally s after ≡ next_step p.tally after next → Became p.tally (next_step p.tally after next) h → lies_in size (after + kept next) ≡ true
      → put p size s long ≡ Ok (record { tally = h; place = after; is_open = not last })
  put_fits next h last e judged became fits =
      by_step _ _ judged (fits_step p size after next h became fits ∙ ap (λ b. Ok (record { tally = h; place = after; is_open = not b })) (sym e))

  pub put_short : (next : Next) → step p.tally s after ≡ next_step p.tally after next → lies_in size (after + kept next) ≡ false → put p size s long ≡ Err ShortBuffer
  put_short next judged fits = by_step _ _ judged (short_step p size after next fits)
