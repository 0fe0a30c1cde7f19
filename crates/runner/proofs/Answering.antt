-- What the steps of a run answer.
use Rattle.std.proofs.Common.{◌≡◌, ℕ, ◌<◌, not, ltb, List, length, Some, None, Option, ap, subst, ◌⊎◌, inl, inr}
use Rattle.std.proofs.lemmas.Bool.{lt-ltb, cond-false}
use Rattle.catalog.specs.Meaning.{Meaning}
use Rattle.catalog.specs.declared.refusal.Refusal.{Refusal}
use Rattle.catalog.specs.declared.refusal.Refusal.TheVariants.{NoSuchValue}
use Rattle.catalog.specs.Causes.{sizes_refusal}
use Rattle.network.specs.declared.law.Answer.{Answer}
use Rattle.network.specs.declared.law.Answer.TheVariants.{Opened, Changed, Domain, Refused}
use Rattle.network.specs.declared.law.Change.{Change}
use Rattle.network.specs.Moment.{Moment}
use Rattle.network.specs.Calls.{opens, asks_domain}
use Rattle.network.specs.Refusals.{refusal, spent}
use Rattle.network.specs.Step.{Step, Turned}
use Rattle.sheet.specs.declared.sheet_move.Move.{Move}
use Rattle.sheet.specs.declared.sheet_move.Move.TheVariants.{Add, Retract}
use Rattle.runner.specs.Runs.{move_call}

-- an open with sizes that a network takes
pub open_answers : (m : Meaning) (s t : Moment) (sizes : List ℕ) (time : ℕ) (a : Answer) → sizes_refusal sizes ≡ None → Step m s (opens sizes time) a t → (a ≡ Opened) × (t.book.sizes ≡ sizes)
open_answers m s t sizes time a good step =
    let r = subst (λ o. Turned o m s (opens sizes time) a t) good step.turned in (r.answer.opened, r.book.sizes)

-- a move is answered by a change or refused, and the sizes stay
pub move_answers : (m : Meaning) (s t : Moment) (v : Move) (a : Answer) → Step m s (move_call v) a t
    → (((c : Change) × (a ≡ Changed c)) ⊎ ((e : Refusal) × (a ≡ Refused e))) × (t.book.sizes ≡ s.book.sizes)
move_answers m s t v a step = by (refusal m s.book (spent s.clock) (move_call v)) v step.turned
  where
    by : (o : Option Refusal) (v : Move) → Turned o m s (move_call v) a t → (((c : Change) × (a ≡ Changed c)) ⊎ ((e : Refusal) × (a ≡ Refused e))) × (t.book.sizes ≡ s.book.sizes)
    by (Some e) v d = (inr (e, d.answer), ap (λ u. u.book.sizes) d.unchanged)
    by None (Add p) r = (inl (r.answer.0, r.answer.1), r.book.sizes)
    by None (Retract p) r = (inl (r.answer.0, r.answer.1), r.book.sizes)

-- a variable that is there is answered by its domain
pub domain_answers : (m : Meaning) (s t : Moment) (i : ℕ) (a : Answer) → i < length s.book.sizes → Step m s (asks_domain i) a t → ((d : ℕ) × (a ≡ Domain d)) × (t.book.sizes ≡ s.book.sizes)
domain_answers m s t i a low step =
    let asked : refusal m s.book (spent s.clock) (asks_domain i) ≡ None =
    cond-false (not (ltb i (length s.book.sizes))) (Some NoSuchValue) None (ap not (lt-ltb i (length s.book.sizes) low)) in
    let r = subst (λ o. Turned o m s (asks_domain i) a t) asked step.turned in
    ((r.answer.1.0, r.answer.1.1), ap (λ u. u.book.sizes) r.answer.0)
