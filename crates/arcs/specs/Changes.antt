-- How the reasons and the standing of the values change.
use Rattle.std.specs.Prelude.{◌≡◌, ℕ, ◌<◌, true, false}
use Rattle.arcs.specs.Arcs.{Arcs}
use Rattle.arcs.specs.Family.{Family}
use Rattle.arcs.specs.Standing.{Standing, Out, Reasons, Rests}

-- the reason r is on at i in both, and the same there
pub record Stays (a a' : Arcs) (i r : ℕ) : Type 0 where
  pub on : a'.on i r ≡ true
  pub far : a'.far i r ≡ a.far i r
  pub fits : (x y : ℕ) → a'.fits i r x y ≡ a.fits i r x y

-- reasons may have been added: each that was on is as it was
abbrev pub MoreReasons : Arcs → Arcs → Type 0
MoreReasons a a' = (i r : ℕ) → a.on i r ≡ true → Stays a a' i r

-- the reasons of p may have been taken away or changed: each other one that was on is as it was
abbrev pub ExceptReasons : Reasons → Arcs → Arcs → Type 0
ExceptReasons p a a' = (i r : ℕ) → p i r ≡ false → a.on i r ≡ true → Stays a a' i r

-- the value x of i is shown in both or out in both, then with the same justification
pub record Same (s s' : Standing) (i x : ℕ) : Type 0 where
  pub shown : s'.shown i x ≡ s.shown i x
  pub reason : s'.reason i x ≡ s.reason i x
  pub time : s'.time i x ≡ s.time i x

-- the value x of i, shown before, is out by the reason r since t, and every other value is as it was
pub record PutOut (s s' : Standing) (i x r t : ℕ) : Type 0 where
  pub shown : s.shown i x ≡ true
  pub gone : s'.shown i x ≡ false
  pub reason : s'.reason i x ≡ r
  pub time : s'.time i x ≡ t
  pub others : (j y : ℕ) → ((i ≡ j) × (x ≡ y) → ⊥) → Same s s' j y

-- the value x of i is shown, and every other value is as it was
pub record PutBack (s s' : Standing) (i x : ℕ) : Type 0 where
  pub back : s'.shown i x ≡ true
  pub others : (j y : ℕ) → ((i ≡ j) × (x ≡ y) → ⊥) → Same s s' j y

-- values may have gone out; what was out keeps its justification
abbrev pub KeptOut : Family → Standing → Standing → Type 0
KeptOut b s s' = (i x : ℕ) → Out b s i x → Same s s' i x

-- What went out took a time from t on: a value that is out in s' with an earlier time was out in s, with the same justification.
abbrev pub Dated : Family → ℕ → Standing → Standing → Type 0
Dated b t s s' = (i x : ℕ) → Out b s' i x → s'.time i x < t → Out b s i x × Same s s' i x

-- Exactly the values whose justification rests on p are back; what is still out keeps its justification.
pub record Released (a : Arcs) (b : Family) (p : Reasons) (s s' : Standing) : Type 0 where
  pub shown : (i x : ℕ) → s.shown i x ≡ true → s'.shown i x ≡ true
  pub back : (i x : ℕ) → Rests a b s p i x → s'.shown i x ≡ true
  pub only : (i x : ℕ) → Out b s i x → s'.shown i x ≡ true → Rests a b s p i x
  pub kept : (i x : ℕ) → Out b s i x → s'.shown i x ≡ false → Same s s' i x
