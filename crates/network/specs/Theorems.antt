-- What holds of histories.
use Rattle.std.specs.Prelude.{ℕ, List, ◌++◌, take, drop}
use Rattle.catalog.specs.Meaning.{Meaning}
use Rattle.network.specs.declared.law.Answer.{Answer}
use Rattle.network.specs.Buffers.{Buffers}
use Rattle.network.specs.Moment.{Moment, Right}
use Rattle.network.specs.Calls.{Call}
use Rattle.network.specs.History.{History, Steps}

-- one history after another is a history
abbrev pub HistoriesJoin : Type 0
HistoriesJoin = (m : Meaning) (s t u : Moment) (b c d : Buffers) (ks : List Call) (as₁ : List Answer) (ls : List Call) (as₂ : List Answer) → History m s b ks as₁ t c → History m t c ls as₂ u d → History m s b (ks ++ ls) (as₁ ++ as₂) u d

-- after any number of its calls a history has come to a moment, from which the rest leads on
abbrev pub HistoriesPart : Type 0
HistoriesPart = (m : Meaning) (s u : Moment) (b d : Buffers) (ks : List Call) (as₁ : List Answer) (n : ℕ) → History m s b ks as₁ u d → (t : Moment) × (c : Buffers) × History m s b (take n ks) (take n as₁) t c × History m t c (drop n ks) (drop n as₁) u d

-- where everything stands rightly before a history, it does after it; so it does after each of its calls
abbrev pub HistoriesRight : Type 0
HistoriesRight = (m : Meaning) (s t : Moment) (b c : Buffers) (ks : List Call) (as₁ : List Answer) → Right m s → History m s b ks as₁ t c → Right m t

-- a history is made of steps
abbrev pub HistoriesAreSteps : Type 0
HistoriesAreSteps = (m : Meaning) (s t : Moment) (b c : Buffers) (ks : List Call) (as₁ : List Answer) → History m s b ks as₁ t c → Steps m s ks as₁ t

-- and steps join, also where other buffers are lent from some call on
abbrev pub StepsJoin : Type 0
StepsJoin = (m : Meaning) (s t u : Moment) (ks : List Call) (as₁ : List Answer) (ls : List Call) (as₂ : List Answer) → Steps m s ks as₁ t → Steps m t ls as₂ u → Steps m s (ks ++ ls) (as₁ ++ as₂) u

-- after any number of steps they have come to a moment, from which the rest leads on
abbrev pub StepsPart : Type 0
StepsPart = (m : Meaning) (s u : Moment) (ks : List Call) (as₁ : List Answer) (n : ℕ) → Steps m s ks as₁ u → (t : Moment) × Steps m s (take n ks) (take n as₁) t × Steps m t (drop n ks) (drop n as₁) u

-- where everything stands rightly before steps, it does after them, whatever buffers each call was lent
abbrev pub StepsRight : Type 0
StepsRight = (m : Meaning) (s t : Moment) (ks : List Call) (as₁ : List Answer) → Right m s → Steps m s ks as₁ t → Right m t
