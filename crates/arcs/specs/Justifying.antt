-- What justifications are good for, and what keeps them.
use Rattle.std.specs.Prelude.{◌≡◌, ℕ, ◌+◌, true, false}
use Rattle.arcs.specs.Arcs.{Arcs}
use Rattle.arcs.specs.Family.{Family, Inside, Support, Consistent, Largest}
use Rattle.arcs.specs.Standing.{Standing, Out, Justified, Reasons, Rests, Timed}
use Rattle.arcs.specs.Changes.{MoreReasons, ExceptReasons, Dated, Same, PutOut, KeptOut, Released}

-- no consistent family inside the bound contains a value that is out with everything justified
abbrev pub OutOfEvery : Type 0
OutOfEvery = (a : Arcs) (b : Family) (s : Standing) → Justified a b s → (g : Family) → Inside b g → Consistent a g → (i x : ℕ) → Out b s i x → g i x ≡ false

-- consistent and justified: the shown values are the largest family
abbrev pub JustifiedLargest : Type 0
JustifiedLargest = (a : Arcs) (b : Family) (s : Standing) → Justified a b s → Inside b s.shown → Consistent a s.shown → Largest a b s.shown

-- added reasons leave everything justified
abbrev pub MoreKeeps : Type 0
MoreKeeps = (a a' : Arcs) (b : Family) (s : Standing) → MoreReasons a a' → Justified a b s → Justified a' b s

-- A value that has no support left under a reason that is on goes out at a time above those of all others: everything stays justified, the
-- times stay apart, and what was out keeps its justification.
pub record OutKept (a : Arcs) (b : Family) (s s' : Standing) (clock : ℕ) : Type 0 where
  pub justified : Justified a b s'
  pub timed : Timed b s' (clock + 1)
  pub kept : KeptOut b s s'

abbrev pub PutOutKeeps : Type 0
PutOutKeeps = (a : Arcs) (b : Family) (s s' : Standing) (i x r clock : ℕ) → Timed b s clock → PutOut s s' i x r clock → a.on i r ≡ true → (Support a s.shown i r x → ⊥) → Justified a b s → OutKept a b s s' clock

-- The reasons of p are taken away or changed, and exactly what rests on them is put back: everything stays justified, the times stay
-- apart, and what does not rest on them stays out with its justification.
pub record ReleaseKept (a a' : Arcs) (b : Family) (p : Reasons) (s s' : Standing) (clock : ℕ) : Type 0 where
  pub justified : Justified a' b s'
  pub timed : Timed b s' clock
  pub kept : (i x : ℕ) → Out b s i x → (Rests a b s p i x → ⊥) → Same s s' i x
  pub dated : Dated b clock s s'

abbrev pub ReleaseKeeps : Type 0
ReleaseKeeps = (a a' : Arcs) (b : Family) (p : Reasons) (s s' : Standing) (clock : ℕ) → Timed b s clock → ExceptReasons p a a' → Released a b p s s' → Justified a b s → ReleaseKept a a' b p s s' clock
