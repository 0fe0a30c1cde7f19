-- One call: its answer, and what stood before and after.
use Rattle.std.specs.Prelude.{◌≡◌, ℕ, ◌+◌, ◌≤◌, cond, not, ◌&&◌, nat_le, List, length, Some, None, Option, ◌==◌}
use Rattle.arcs.specs.Family.{Family, within_sizes}
use Rattle.arcs.specs.WipedOut.{WipedOut}
use Rattle.bits.specs.Bits.{has_bit}
use Rattle.catalog.specs.Meaning.{Meaning}
use Rattle.arcs.specs.Standing.{Reasons, Out, Rests}
use Rattle.arcs.specs.Changes.{Dated, Same}
use Rattle.catalog.specs.declared.refusal.Refusal.{Refusal}
use Rattle.catalog.specs.Number.{number_of}
use Rattle.network.specs.declared.law.Answer.{Answer}
use Rattle.network.specs.declared.law.Answer.TheVariants.{Opened, Changed, Domain, Shown, Justified, Wiped, Refused}
use Rattle.network.specs.declared.law.Change.{Change}
use Rattle.domains.specs.declared.Justification.{Justification}
use Rattle.network.specs.Moment.{Moment, Agrees, Right, bound, arcs_at}
use Rattle.network.specs.Calls.{Call, opens, adds, retracts, asks_domain, asks_shown, asks_justification, asks_wiped}
use Rattle.network.specs.Refusals.{refusal, next, spent}
use Rattle.network.specs.Counting.{count_less, values_in}

-- the reasons that are the constraint p
abbrev pub names_only : ℕ → Reasons
names_only p i r = r == p

-- The call, where it is accepted, may take the justification of the value x of i away: an open does, and so does the retracting of a
-- constraint on which the justification rests.
abbrev pub Frees : Meaning → Moment → Call → ℕ → ℕ → Type 0
Frees m s (opens sizes time) i x = Unit {0}
Frees m s (adds p lengths) i x = ⊥
Frees m s (retracts p lengths) i x = Rests (arcs_at m s) (bound s) s.standing (names_only p) i x
Frees m s (asks_domain j) i x = ⊥
Frees m s (asks_shown j y) i x = ⊥
Frees m s (asks_justification j y) i x = ⊥
Frees m s asks_wiped i x = ⊥

-- the wiped-out variable at a moment, or none
abbrev pub WipedAt : Moment → Option ℕ → Type 0
WipedAt s o = WipedOut s.standing.shown (length s.book.sizes) o

-- why the value x of i is out: its constraint and its time, or nothing where it is shown
abbrev pub why_out : Moment → ℕ → ℕ → Option Justification
why_out s i x = cond (s.standing.shown i x) None (Some (record { constraint = s.standing.reason i x; time = s.standing.time i x }))

-- The change that an add answers: as many values as were shown before and are out after; the clock rose by them.
pub record AddAnswer (s t : Moment) (c : Change) : Type 0 where
  pub count : c.values ≡ count_less s.standing.shown t.standing.shown
  pub wiped : WipedAt t c.wiped
  pub clock : t.clock ≡ s.clock + c.values

-- the values that are out with a time from t on
abbrev pub out_since : Moment → ℕ → Family
out_since s t i x = bound s i x && (not (s.standing.shown i x) && nat_le t (s.standing.time i x))

-- The change that a retract answers: as many values as were out before and are shown after; the clock rose by one for each value that went out again,
-- which are at most 2,048.
pub record RetractAnswer (s t : Moment) (c : Change) : Type 0 where
  pub count : c.values ≡ count_less t.standing.shown s.standing.shown
  pub wiped : WipedAt t c.wiped
  pub later : s.clock ≤ t.clock
  pub clock : t.clock ≡ s.clock + values_in (out_since t s.clock) 32
  pub soon : t.clock ≤ s.clock + 2048

-- an open shows every value and sets the clock
pub record OpenAnswer (t : Moment) (sizes : List ℕ) (time : ℕ) (a : Answer) : Type 0 where
  pub opened : a ≡ Opened
  pub all : (i x : ℕ) → t.standing.shown i x ≡ within_sizes sizes i x
  pub clock : t.clock ≡ time

-- the domain has just the shown values of i
abbrev pub DomainIs : Moment → ℕ → ℕ → Type 0
DomainIs s i d = (x : ℕ) → has_bit d x ≡ s.standing.shown i x

-- The answer to a call that is accepted is right, and the clock moves as it should. What is asked changes nothing.
abbrev pub Answered : Moment → Call → Answer → Moment → Type 0
Answered s (opens sizes time) a t = OpenAnswer t sizes time a
Answered s (adds p lengths) a t = (c : Change) × (a ≡ Changed c) × AddAnswer s t c
Answered s (retracts p lengths) a t = (c : Change) × (a ≡ Changed c) × RetractAnswer s t c
Answered s (asks_domain i) a t = (t ≡ s) × ((d : ℕ) × (a ≡ Domain d) × DomainIs s i d)
Answered s (asks_shown i x) a t = (t ≡ s) × (a ≡ Shown (s.standing.shown i x))
Answered s (asks_justification i x) a t = (t ≡ s) × (a ≡ Justified (why_out s i x))
Answered s asks_wiped a t = (t ≡ s) × ((o : Option ℕ) × (a ≡ Wiped o) × WipedAt s o)

-- an accepted call
pub record Accepted (m : Meaning) (s : Moment) (k : Call) (a : Answer) (t : Moment) : Type 0 where
  -- the book after it
  pub book : Agrees t.book (next s.book k)
  -- a value that was out keeps its justification, unless the call freed it
  pub kept : (i x : ℕ) → Out (bound s) s.standing i x → (Frees m s k i x → ⊥) → Same s.standing t.standing i x
  -- a value put out takes the clock's time: one that is out after with an earlier time was out before, with the same justification
  pub dated : Dated (bound t) s.clock s.standing t.standing
  pub answer : Answered s k a t

-- the number by which an answer turns its call down, or nothing where it does not
abbrev pub refused_by : Answer → Option ℕ
refused_by Opened = None
refused_by (Changed c) = None
refused_by (Domain d) = None
refused_by (Shown b) = None
refused_by (Justified j) = None
refused_by (Wiped o) = None
refused_by (Refused e) = Some (number_of e)

-- a refused call: it answers its cause, by its number, and nothing changed
pub record Declined (s : Moment) (e : Refusal) (a : Answer) (t : Moment) : Type 0 where
  pub answer : a ≡ Refused e
  pub number : refused_by a ≡ Some (number_of e)
  pub unchanged : t ≡ s

-- refused or accepted, as the first cause against the call says
abbrev pub Turned : Option Refusal → Meaning → Moment → Call → Answer → Moment → Type 0
Turned (Some e) m s k a t = Declined s e a t
Turned None m s k a t = Accepted m s k a t

-- One call: it is refused exactly as the book and the clock say, and after it everything stands rightly.
pub record Step (m : Meaning) (s : Moment) (k : Call) (a : Answer) (t : Moment) : Type 0 where
  pub turned : Turned (refusal m s.book (spent s.clock) k) m s k a t
  pub right : Right m t
