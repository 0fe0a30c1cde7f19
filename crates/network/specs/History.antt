-- Lists of calls, with the list of their answers.
use Rattle.std.specs.Prelude.{◌≡◌, List, [], ◌∷◌}
use Rattle.catalog.specs.Meaning.{Meaning}
use Rattle.network.specs.declared.law.Answer.{Answer}
use Rattle.network.specs.Buffers.{Buffers, Leaves}
use Rattle.network.specs.Moment.{Moment, Blank, Right}
use Rattle.network.specs.Calls.{Call}
use Rattle.network.specs.Refusals.{refusal, spent}
use Rattle.network.specs.Step.{Step}

-- One call, with its answer: what stood before and after it, and what the lent buffers held.
pub record Performed (m : Meaning) (s : Moment) (b : Buffers) (k : Call) (a : Answer) (t : Moment) (b' : Buffers) : Type 0 where
  pub step : Step m s k a t
  pub buffers : Leaves (refusal m s.book (spent s.clock) k) k b b'

-- From the moment s, with the buffers b, these calls, one after another, with these answers, lead to the moment t and the buffers c.
abbrev pub History : Meaning → Moment → Buffers → List Call → List Answer → Moment → Buffers → Type 0
History m s b [] [] t c = (t ≡ s) × (c ≡ b)
History m s b [] (a ∷ answers) t c = ⊥
History m s b (k ∷ calls) [] t c = ⊥
History m s b (k ∷ calls) (a ∷ answers) t c =
    (u : Moment) × (d : Buffers) × Performed m s b k a u d × History m u d calls answers t c

-- The steps of the calls alone, whatever buffers each of them was lent: from the moment s, with these answers, they lead to the moment t.
abbrev pub Steps : Meaning → Moment → List Call → List Answer → Moment → Type 0
Steps m s [] [] t = t ≡ s
Steps m s [] (a ∷ answers) t = ⊥
Steps m s (k ∷ calls) [] t = ⊥
Steps m s (k ∷ calls) (a ∷ answers) t = (u : Moment) × Step m s k a u × Steps m u calls answers t

-- the calls, with these answers, on a network newly made lead to the moment t and the buffers c
pub record Run (m : Meaning) (b : Buffers) (calls : List Call) (answers : List Answer) (t : Moment) (c : Buffers) : Type 0 where
  pub first : Moment
  pub blank : Blank first
  pub right : Right m first
  pub history : History m first b calls answers t c
