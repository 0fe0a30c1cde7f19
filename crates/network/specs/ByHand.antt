-- Calls made one by one, with their results as answers.
use Rattle.std.specs.Prelude.{List, [], ◌∷◌}
use Rattle.network.specs.declared.law.Answer.{Answer}
use Rattle.network.specs.declared.law.Answer.TheVariants.{Opened, Changed, Domain}
use Rattle.network.specs.Performs.{answer_by}
use Rattle.network.specs.declared.by_hand.Tried.{Tried}

-- the answers to the five calls, in their order
abbrev pub answers_of : Tried → List Answer
answers_of t =
    answer_by (λ _. Opened) t.opened ∷
    answer_by (λ c. Changed c) t.added ∷
    answer_by (λ d. Domain d) t.under ∷
    answer_by (λ c. Changed c) t.retracted ∷
    answer_by (λ d. Domain d) t.after ∷ []
