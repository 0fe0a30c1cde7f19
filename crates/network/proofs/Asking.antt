-- Refused calls and askings, by what the code tests.
use Rattle.std.proofs.Common.{◌≡◌, ℕ, ◌<◌, ◌≤◌, Bool, true, false, cond, not, ◌&&◌, ltb, length, get_or, take, Some, None, Option, sym, refl, ap, ◌∙◌, subst, arith}
use Rattle.std.proofs.lemmas.Bool.{and_parts, not-false}
use Rattle.arcs.specs.WipedOut.{WipedOut}
use Rattle.bits.specs.Bits.{has_bit}
use Rattle.catalog.specs.Meaning.{Meaning, Lawful}
use Rattle.catalog.specs.declared.refusal.Refusal.{Refusal}
use Rattle.catalog.specs.declared.refusal.Refusal.TheVariants.{NoSuchValue}
use Rattle.domains.specs.declared.Justification.{Justification}
use Rattle.engine.specs.Calls.{justification_of}
use Rattle.domains.specs.Model.{shown, standing, within}
use Rattle.domains.specs.Stands.{Stands}
use Rattle.domains.proofs.Props.{stands_out}
use Rattle.engine.proofs.Called.{right_now}
use Rattle.network.specs.declared.law.Answer.{Answer}
use Rattle.network.specs.declared.law.Answer.TheVariants.{Domain, Shown, Justified, Wiped, Refused}
use Rattle.network.specs.Moment.{Agrees, Right}
use Rattle.network.specs.Calls.{Call, asks_domain, asks_shown, asks_justification, asks_wiped}
use Rattle.network.specs.Refusals.{refusal, next, spent, when}
use Rattle.network.specs.Step.{Answered}
use Rattle.network.specs.declared.state.State.{State}
use Rattle.network.specs.Model.{Linked, moment_of}
use Rattle.network.specs.Performs.{Took, value_cause}
use Rattle.network.proofs.Link.{same_size, variables_are}
use Rattle.network.proofs.Steps.{right_here, step_refused, step_asked, agrees_refl}

-- a cause that does not hold
pub when_none : (b : Bool) (e : Refusal) → when b e ≡ None → b ≡ false
when_none true e h = let z : ◌≡◌ {A = ℕ} 0 1 = cc in absurd (omega arith)
when_none false e h = refl

-- the constraints and domains of a state stand rightly
pub stands_in : (s : State) → Stands s.engine.constraints s.engine.domains
stands_in s = stands_out s.engine.constraints s.engine.domains s.engine.stands

module _ (m : Meaning) (lawful : Lawful m) (s : State) (linked : Linked m s) where
  pub right_in : Right m (moment_of s)
  right_in = right_here m lawful s.engine.constraints s.engine.domains s.variables s.known linked (right_now s.engine.constraints s.engine.domains (stands_in s))

  -- a refused call
  pub refused : (k : Call) (e : Refusal) → refusal m (moment_of s).book (spent (moment_of s).clock) k ≡ Some e → Took m s k (Refused e) s
  refused k e why = record { linked = linked; step = step_refused m (moment_of s) k e why right_in }

  asked : (k : Call) (a : Answer) → refusal m (moment_of s).book (spent (moment_of s).clock) k ≡ None → Agrees (moment_of s).book (next (moment_of s).book k) → Answered (moment_of s) k a (moment_of s) → Took m s k a s
  asked k a none book answer = record { linked = linked; step = step_asked m (moment_of s) k a none book answer right_in }

  pub as_many : length (take s.variables s.engine.constraints.sizes) ≡ s.variables
  as_many = variables_are m lawful s.engine.constraints s.variables s.known linked s.engine.constraints.sizes_long

  size : (i : ℕ) → get_or (moment_of s).book.sizes i 0 ≡ get_or s.engine.constraints.sizes i 0
  size i = same_size m lawful s.engine.constraints s.variables s.known linked i

  as_there : (i : ℕ) → ltb i (length (moment_of s).book.sizes) ≡ ltb i s.variables
  as_there i = ap (ltb i) as_many

  no_value : (b : Bool) → b ≡ false → cond (not b) (Some NoSuchValue) None ≡ Some NoSuchValue
  no_value b e = ap (λ t. cond (not t) (Some NoSuchValue) None) e

  a_value : (b : Bool) → b ≡ true → cond (not b) (Some NoSuchValue) None ≡ None
  a_value b e = ap (λ t. cond (not t) (Some NoSuchValue) None) e

  pub domain_no : (i : ℕ) → false ≡ ltb i s.variables → Took m s (asks_domain i) (Refused NoSuchValue) s
  domain_no i h = refused (asks_domain i) NoSuchValue (no_value (ltb i (length (moment_of s).book.sizes)) (as_there i ∙ sym h))

  pub domain_yes : (i d : ℕ) → true ≡ ltb i s.variables → d ≡ get_or s.engine.domains.sets i 0 → Took m s (asks_domain i) (Domain d) s
  domain_yes i d h e =
      asked (asks_domain i) (Domain d) (a_value (ltb i (length (moment_of s).book.sizes)) (as_there i ∙ sym h)) (agrees_refl (moment_of s).book) (refl, (d, refl, λ x. ap (λ v. has_bit v x) e))

  pub wiped_yes : (o : Option ℕ) → WipedOut (shown s.engine.domains) s.variables o → Took m s asks_wiped (Wiped o) s
  wiped_yes o w =
      asked asks_wiped (Wiped o) refl (agrees_refl (moment_of s).book) (refl, (o, refl, subst (λ n. WipedOut (shown s.engine.domains) n o) (sym as_many) w))

  module _ (i x : ℕ) where
    -- the cause that the law gives is the one that the state gives
    cause : when (not (ltb i (length (moment_of s).book.sizes) && ltb x (get_or (moment_of s).book.sizes i 0))) NoSuchValue ≡ value_cause s i x
    cause =
        ap (λ n. when (not (ltb i n && ltb x (get_or (moment_of s).book.sizes i 0))) NoSuchValue) as_many
        ∙ ap (λ z. when (not (ltb i s.variables && ltb x z)) NoSuchValue) (size i)

    pub shown_no : (e : Refusal) → Some e ≡ value_cause s i x → Took m s (asks_shown i x) (Refused e) s
    shown_no e why = refused (asks_shown i x) e (cause ∙ sym why)

    pub shown_yes : (b : Bool) → None ≡ value_cause s i x → b ≡ shown s.engine.domains i x → Took m s (asks_shown i x) (Shown b) s
    shown_yes b none e = asked (asks_shown i x) (Shown b) (cause ∙ sym none) (agrees_refl (moment_of s).book) (refl, ap Shown e)

    pub why_no : (e : Refusal) → Some e ≡ value_cause s i x → Took m s (asks_justification i x) (Refused e) s
    why_no e why = refused (asks_justification i x) e (cause ∙ sym why)

    pub why_yes
        : (o : Option Justification) → None ≡ value_cause s i x
        → o ≡ justification_of s.engine.constraints s.engine.domains i x → Took m s (asks_justification i x) (Justified o) s
    why_yes o none e =
        let here : Bool = ltb i s.variables && ltb x (get_or s.engine.constraints.sizes i 0) in
        let low : within s.engine.constraints i x ≡ true = (and_parts (ltb i s.variables) _ (not-false here (when_none (not here) NoSuchValue (sym none)))).1 in
        let why : Option Justification = Some (record { constraint = (standing s.engine.domains).reason i x; time = (standing s.engine.domains).time i x }) in
        asked (asks_justification i x) (Justified o) (cause ∙ sym none) (agrees_refl (moment_of s).book)
        (refl, ap Justified (e ∙ ap (λ b. cond (b && not (shown s.engine.domains i x)) why None) low ∙ turned (shown s.engine.domains i x) why))
      where
        turned : (b : Bool) (w : Option Justification) → cond (not b) w None ≡ cond b None w
        turned true w = refl
        turned false w = refl
