-- Five calls made one by one are a history.
use Rattle.std.proofs.Common.{◌≡◌, ℕ, List, [], ◌∷◌, Result, length, drop, refl, ap, ◌∙◌, subst}
use Rattle.catalog.specs.Meaning.{Meaning}
use Rattle.catalog.specs.declared.refusal.Refusal.{Refusal}
use Rattle.domains.specs.declared.Returning.{Returning}
use Rattle.domains.specs.Stands.{Past}
use Rattle.network.specs.declared.law.Answer.{Answer}
use Rattle.network.specs.declared.law.Answer.TheVariants.{Changed}
use Rattle.network.specs.declared.law.Change.{Change}
use Rattle.network.specs.Moment.{Moment}
use Rattle.network.specs.Calls.{Lengths, opens, adds, retracts, asks_domain}
use Rattle.network.specs.History.{History}
use Rattle.network.specs.declared.state.State.{State}
use Rattle.network.specs.Model.{moment_of}
use Rattle.network.specs.Performs.{Took, TookLent, answer_by, buffers, lengths_of}
use Rattle.network.proofs.Lending.{took_alone}
use Rattle.network.proofs.Runs.{lent_more, same_lengths}

pub one_by_one
    : (m m₁ m₂ m₃ : Meaning) (s₀ s₁ s₂ s₃ : State) (w w' w'' : List ℕ) (v v' v'' : List Returning) (sizes : List ℕ) (p i : ℕ) (a₁ a₃ a₅ : Answer) (r₂ r₄ : Result Change Refusal)
    → m₁ ≡ m → m₂ ≡ m₁ → m₃ ≡ m₂
    → Took m s₀ (opens sizes 0) a₁ s₁
    → TookLent m₁ s₁ (buffers w v) (adds p (lengths_of w v)) (answer_by Changed r₂) s₂ (buffers w' v') → v' ≡ v → Past 128 w w'
    → Took m₂ s₂ (asks_domain i) a₃ s₂
    → TookLent m₂ s₂ (buffers w' v') (retracts p (lengths_of w' v')) (answer_by Changed r₄) s₃ (buffers w'' v'')
    → Took m₃ s₃ (asks_domain i) a₅ s₃
    → History m (moment_of s₀) (buffers w v) (opens sizes 0 ∷ adds p (lengths_of w v) ∷ asks_domain i ∷ retracts p (lengths_of w v) ∷ asks_domain i ∷ []) (a₁ ∷ answer_by Changed r₂ ∷ a₃ ∷ answer_by Changed r₄ ∷ a₅ ∷ []) (moment_of s₃) (buffers w'' v'')
one_by_one m m₁ m₂ m₃ s₀ s₁ s₂ s₃ w w' w'' v v' v'' sizes p i a₁ a₃ a₅ r₂ r₄ e₁ e₂ e₃ went_open went_add same_v past_w went_ask went_retract went_after =
    let lengths : Lengths = lengths_of w v in
    let lent : lengths_of w' v' ≡ lengths = same_lengths w w' v v' past_w (record { long = ap length same_v; rest = ap (drop 2048) same_v }) in
    let first : Moment = moment_of s₀ in
    let opened : History m first (buffers w v) (opens sizes 0 ∷ []) (a₁ ∷ []) (moment_of s₁) (buffers w v) =
    lent_more m m first (buffers w v) (buffers w v) (buffers w v) [] [] (opens sizes 0) a₁ s₀ s₁ refl (refl, refl) (took_alone m s₀ s₁ (buffers w v) (opens sizes 0) a₁ went_open refl)
    in
    let added : History m first (buffers w v) (opens sizes 0 ∷ adds p lengths ∷ []) (a₁ ∷ answer_by Changed r₂ ∷ []) (moment_of s₂) (buffers w' v') =
    lent_more m m₁ first (buffers w v) (buffers w v) (buffers w' v') (opens sizes 0 ∷ []) (a₁ ∷ []) (adds p lengths) (answer_by Changed r₂) s₁ s₂ e₁ opened
    went_add
    in
    let under : History m first (buffers w v) (opens sizes 0 ∷ adds p lengths ∷ asks_domain i ∷ []) (a₁ ∷ answer_by Changed r₂ ∷ a₃ ∷ []) (moment_of s₂) (buffers w' v') =
    lent_more m m₂ first (buffers w v) (buffers w' v') (buffers w' v') (opens sizes 0 ∷ adds p lengths ∷ []) (a₁ ∷ answer_by Changed r₂ ∷ []) (asks_domain i) a₃ s₂ s₂ (e₂ ∙ e₁) added
    (took_alone m₂ s₂ s₂ (buffers w' v') (asks_domain i) a₃ went_ask refl)
    in
    let taken = subst (λ k. TookLent m₂ s₂ (buffers w' v') (retracts p k) (answer_by Changed r₄) s₃ (buffers w'' v'')) lent went_retract in
    let gone : History m first (buffers w v) (opens sizes 0 ∷ adds p lengths ∷ asks_domain i ∷ retracts p lengths ∷ []) (a₁ ∷ answer_by Changed r₂ ∷ a₃ ∷ answer_by Changed r₄ ∷ []) (moment_of s₃) (buffers w'' v'') =
    lent_more m m₂ first (buffers w v) (buffers w' v') (buffers w'' v'') (opens sizes 0 ∷ adds p lengths ∷ asks_domain i ∷ []) (a₁ ∷ answer_by Changed r₂ ∷ a₃ ∷ []) (retracts p lengths) (answer_by Changed r₄) s₂ s₃ (e₂ ∙ e₁) under
    taken
    in
    lent_more m m₃ first (buffers w v) (buffers w'' v'') (buffers w'' v'') (opens sizes 0 ∷ adds p lengths ∷ asks_domain i ∷ retracts p lengths ∷ []) (a₁ ∷ answer_by Changed r₂ ∷ a₃ ∷ answer_by Changed r₄ ∷ []) (asks_domain i) a₅ s₃ s₃ (e₃ ∙ e₂ ∙ e₁) gone
    (took_alone m₃ s₃ s₃ (buffers w'' v'') (asks_domain i) a₅ went_after refl)
