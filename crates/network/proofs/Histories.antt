-- Histories join, part, and keep everything standing rightly.
use Rattle.std.proofs.Common.{zero, suc, List, [], ◌∷◌, ◌++◌, sym, refl, subst, subst₂}
use Rattle.catalog.specs.Meaning.{Meaning}
use Rattle.network.specs.declared.law.Answer.{Answer}
use Rattle.network.specs.Buffers.{Buffers}
use Rattle.network.specs.Moment.{Moment, Right}
use Rattle.network.specs.Calls.{Call}
use Rattle.network.specs.History.{Performed, History, Steps}
use Rattle.network.specs.Theorems.{HistoriesJoin, HistoriesPart, HistoriesRight, HistoriesAreSteps, StepsJoin, StepsPart, StepsRight}

pub join : HistoriesJoin
join m s t u b c d [] [] ls bs e h =
    let P : Moment → Buffers → Type 0 = λ v w. History m v w ls bs u d in subst₂ P e.0 e.1 h
join m s t u b c d [] (a ∷ answers) ls bs e h = absurd e
join m s t u b c d (k ∷ ks) [] ls bs e h = absurd e
join m s t u b c d (k ∷ ks) (a ∷ answers) ls bs e h = (e.0, e.1, e.2, join m e.0 t u e.1 c d ks answers ls bs e.3 h)

pub part : HistoriesPart
part m s u b d ks answers zero h = (s, b, (refl, refl), h)
part m s u b d [] [] (suc n) h = (s, b, (refl, refl), h)
part m s u b d [] (a ∷ answers) (suc n) h = absurd h
part m s u b d (k ∷ ks) [] (suc n) h = absurd h
part m s u b d (k ∷ ks) (a ∷ answers) (suc n) h =
    let r = part m h.0 u h.1 d ks answers n h.3 in (r.0, r.1, (h.0, h.1, h.2, r.2), r.3)

pub right : HistoriesRight
right m s t b c [] [] r h = subst (λ v. Right m v) (sym h.0) r
right m s t b c [] (a ∷ answers) r h = absurd h
right m s t b c (k ∷ ks) [] r h = absurd h
right m s t b c (k ∷ ks) (a ∷ answers) r h = right m h.0 t h.1 c ks answers h.2.step.right h.3

-- one call more at the end
pub one_more : (m : Meaning) (s t u : Moment) (b c d : Buffers) (ks : List Call) (answers : List Answer) (k : Call) (a : Answer) → History m s b ks answers t c → Performed m t c k a u d → History m s b (ks ++ (k ∷ [])) (answers ++ (a ∷ [])) u d
one_more m s t u b c d ks answers k a h did =
    join m s t u b c d ks answers (k ∷ []) (a ∷ []) h (u, d, did, (refl, refl))

pub are_steps : HistoriesAreSteps
are_steps m s t b c [] [] h = h.0
are_steps m s t b c [] (a ∷ answers) h = absurd h
are_steps m s t b c (k ∷ ks) [] h = absurd h
are_steps m s t b c (k ∷ ks) (a ∷ answers) h = (h.0, h.2.step, are_steps m h.0 t h.1 c ks answers h.3)

pub steps_join : StepsJoin
steps_join m s t u [] [] ls bs e h = subst (λ v. Steps m v ls bs u) e h
steps_join m s t u [] (a ∷ answers) ls bs e h = absurd e
steps_join m s t u (k ∷ ks) [] ls bs e h = absurd e
steps_join m s t u (k ∷ ks) (a ∷ answers) ls bs e h = (e.0, e.1, steps_join m e.0 t u ks answers ls bs e.2 h)

pub steps_part : StepsPart
steps_part m s u ks answers zero h = (s, refl, h)
steps_part m s u [] [] (suc n) h = (s, refl, h)
steps_part m s u [] (a ∷ answers) (suc n) h = absurd h
steps_part m s u (k ∷ ks) [] (suc n) h = absurd h
steps_part m s u (k ∷ ks) (a ∷ answers) (suc n) h =
    let r = steps_part m h.0 u ks answers n h.2 in (r.0, (h.0, h.1, r.1), r.2)

pub steps_right : StepsRight
steps_right m s t [] [] r h = subst (λ v. Right m v) (sym h) r
steps_right m s t [] (a ∷ answers) r h = absurd h
steps_right m s t (k ∷ ks) [] r h = absurd h
steps_right m s t (k ∷ ks) (a ∷ answers) r h = steps_right m h.0 t ks answers h.1.right h.2
