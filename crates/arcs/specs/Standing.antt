-- Why values are out: justifications, and what they rest on.
use Rattle.std.specs.Prelude.{◌≡◌, ℕ, ◌<◌, Bool, true, false}
use Rattle.arcs.specs.Arcs.{Arcs}
use Rattle.arcs.specs.Family.{Family}

-- How the values stand: the shown ones, and for each other one its justification, a reason and a time.
pub record Standing : Type 0 where
  pub shown : Family
  pub reason : ℕ → ℕ → ℕ
  pub time : ℕ → ℕ → ℕ

-- the value x of the variable i lies inside the bound and is not shown
pub record Out (b : Family) (s : Standing) (i x : ℕ) : Type 0 where
  pub inside : b i x ≡ true
  pub gone : s.shown i x ≡ false

-- The reason r accounts for the value x of i being out since t: it is on at i, and each value that it lets stand beside x, inside the
-- bound, is out since before t.
pub record Accounts (a : Arcs) (b : Family) (s : Standing) (i x r t : ℕ) : Type 0 where
  pub on : a.on i r ≡ true
  pub gone : (y : ℕ) → b (a.far i r) y ≡ true → a.fits i r x y ≡ true → s.shown (a.far i r) y ≡ false
  pub before : (y : ℕ) → b (a.far i r) y ≡ true → a.fits i r x y ≡ true → s.time (a.far i r) y < t

-- each value that is out is accounted for by its own justification
abbrev pub Justified : Arcs → Family → Standing → Type 0
Justified a b s = (i x : ℕ) → Out b s i x → Accounts a b s i x (s.reason i x) (s.time i x)

-- A set of reasons says of a variable and a reason whether the reason is one of the set there.
abbrev pub Reasons : Type 0
Reasons = ℕ → ℕ → Bool

-- The justification of the value x of i, which is out, rests on the set p: it names a reason of p, or the justification of a value which
-- its reason lets stand beside x rests on p.
pub data Rests (a : Arcs) (b : Family) (s : Standing) (p : Reasons) : ℕ → ℕ → Type 0 where
  names : {i x : ℕ} → Out b s i x → p i (s.reason i x) ≡ true → Rests a b s p i x
  through : {i x : ℕ} → Out b s i x → (y : ℕ) → a.fits i (s.reason i x) x y ≡ true → Rests a b s p (a.far i (s.reason i x)) y → Rests a b s p i x

-- times lie below the clock, and those of two values that are out differ
pub record Timed (b : Family) (s : Standing) (clock : ℕ) : Type 0 where
  pub below : (i x : ℕ) → Out b s i x → s.time i x < clock
  pub apart : (i x j y : ℕ) → Out b s i x → Out b s j y → s.time i x ≡ s.time j y → (i ≡ j) × (x ≡ y)
