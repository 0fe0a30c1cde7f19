-- The text of a run, one line more at a time.
use Rattle.std.proofs.Common.{◌≡◌, ℕ, suc, ◌+◌, ◌<◌, ◌≤◌, min, List, [], ◌∷◌, ◌++◌, length, get_or, drop, Result, sym, refl, ap, ◌∙◌, ⊎_elim, arith}
use Rattle.std.proofs.lemmas.Bool.{cases_lt}
use Rattle.std.proofs.lemmas.List.{append_assoc, append-nil, at_drop_more, at_drop_all}
use Rattle.network.specs.declared.law.Change.{Change}
use Rattle.sheet.specs.declared.sheet_move.Move.{Move}
use Rattle.runner.specs.Lines.{domain_line, ended, move_line, moves_text, domains_text}
use Rattle.runner.specs.declared.faults.RunFault.{RunFault}

pub move_more : (before after : List ℕ) (moves : List Move) (outcomes : List (Result Change RunFault)) (i : ℕ) (d : Move) (o : Result Change RunFault) → i < length moves → i < length outcomes
    → after ≡ before ++ ended (move_line (get_or moves i d) (get_or outcomes i o))
    → after ++ moves_text (drop (i + 1) moves) (drop (i + 1) outcomes) ≡ before ++ moves_text (drop i moves) (drop i outcomes)
move_more before after moves outcomes i d o l m e =
    ap (λ t. t ++ moves_text (drop (i + 1) moves) (drop (i + 1) outcomes)) e
    ∙ append_assoc before (ended (move_line (get_or moves i d) (get_or outcomes i o))) (moves_text (drop (i + 1) moves) (drop (i + 1) outcomes))
    ∙ ap (λ t. before ++ t)
    (sym (at_drop_more (λ ms. moves_text ms (drop i outcomes)) moves i d l
    ∙ at_drop_more (moves_text (get_or moves i d ∷ drop (i + 1) moves)) outcomes i o m))

pub domain_more : (before after domains : List ℕ) (i : ℕ) → i < length domains → after ≡ before ++ ended (domain_line i (get_or domains i 0))
    → after ++ domains_text (i + 1) (drop (i + 1) domains) ≡ before ++ domains_text i (drop i domains)
domain_more before after domains i l e =
    let k : i + 1 ≡ suc i = omega arith in
    ap (λ t. t ++ domains_text (i + 1) (drop (i + 1) domains)) e
    ∙ append_assoc before (ended (domain_line i (get_or domains i 0))) (domains_text (i + 1) (drop (i + 1) domains))
    ∙ ap (λ n. before ++ (ended (domain_line i (get_or domains i 0)) ++ domains_text n (drop (i + 1) domains))) k
    ∙ ap (λ t. before ++ t) (sym (at_drop_more (domains_text i) domains i 0 l))

no_outcomes : (moves : List Move) → moves_text moves [] ≡ []
no_outcomes [] = refl
no_outcomes (m ∷ moves) = refl

-- where the moves or their outcomes have come to an end
pub no_moves_left : (text : List ℕ) (moves : List Move) (outcomes : List (Result Change RunFault)) (i : ℕ) → i ≡ min (length moves) (length outcomes)
    → text ≡ text ++ moves_text (drop i moves) (drop i outcomes)
no_moves_left text moves outcomes i e =
    sym
    (ap (λ t. text ++ t)
    (⊎_elim
    (λ l. at_drop_all (moves_text (drop i moves)) outcomes i (let z : length outcomes ≤ i = omega arith in z) ∙ no_outcomes (drop i moves))
    (λ l. at_drop_all (λ ms. moves_text ms (drop i outcomes)) moves i (let z : length moves ≤ i = omega arith in z))
    (cases_lt (length outcomes) (length moves)))
    ∙ append-nil text)

pub no_domains_left : (text domains : List ℕ) (i : ℕ) → length domains ≤ i → text ≡ text ++ domains_text i (drop i domains)
no_domains_left text domains i l = sym (ap (λ t. text ++ t) (at_drop_all (domains_text i) domains i l) ∙ append-nil text)
