-- From call to call of a run.
use Rattle.std.proofs.Common.{◌≤◌, Vec, Global, vec_len, vec_capacity, ◌≡◌, ℕ, zero, suc, ◌+◌, ◌<◌, List, [], ◌∷◌, ◌++◌, map, length, get_or, take, Some, Result, is_err, is_some, count_by, true, vec_items, sym, refl, ap, ◌∙◌, subst, ⊎_elim, add-one, arith}
use Rattle.std.proofs.lemmas.List.{length-append, length-map, map_more, map-append}
use Rattle.catalog.specs.Meaning.{Meaning}
use Rattle.network.specs.declared.law.Answer.{Answer}
use Rattle.network.specs.declared.law.Answer.TheVariants.{Domain, Opened}
use Rattle.network.specs.declared.law.Change.{Change}
use Rattle.network.specs.Buffers.{Buffers}
use Rattle.network.specs.Calls.{Call, asks_domain, opens}
use Rattle.network.specs.History.{History}
use Rattle.network.specs.Moment.{Moment, Blank, Right}
use Rattle.network.specs.Step.{Step}
use Rattle.network.proofs.Histories.{join}
use Rattle.network.specs.Served.{Stands}
use Rattle.sheet.specs.declared.sheet_move.Move.{Move}
use Rattle.runner.specs.declared.faults.RunFault.{RunFault}
use Rattle.runner.specs.declared.reports.Report.{Report}
use Rattle.runner.specs.declared.running.Running.{Running}
use Rattle.runner.specs.Led.{moment_at, held, Led, MadeOne, MadeAll}
use Rattle.runner.specs.Ran.{Ran}
use Rattle.runner.specs.Runs.{move_call, domains_asked, outcome, Outcomes}
use Rattle.runner.proofs.Answering.{move_answers}

abbrev Outcome : Type 0
Outcome = Result Change RunFault

-- one outcome more
outcomes_more : (k : ℕ) (answers : List Answer) (os : List Outcome) (a : Answer) (o : Outcome) → Outcomes k answers os → outcome (k + length os) a ≡ Some o → Outcomes k (answers ++ (a ∷ [])) (os ++ (o ∷ []))
outcomes_more k [] [] a o h e = (ap (λ n. outcome n a) (let z : k ≡ k + 0 = omega arith in z) ∙ e, tt)
outcomes_more k (b ∷ answers) [] a o h e = absurd h
outcomes_more k [] (p ∷ os) a o h e = absurd h
outcomes_more k (b ∷ answers) (p ∷ os) a o h e =
    (h.0, outcomes_more (suc k) answers os a o h.1 (ap (λ n. outcome n a) (let z : suc k + length os ≡ k + suc (length os) = omega arith in z) ∙ e))

-- as many answers as calls, outcomes as answers, and questions as variables
history_long : (m : Meaning) (s : Moment) (b : Buffers) (ks : List Call) (answers : List Answer) (t : Moment) (c : Buffers) → History m s b ks answers t c → length answers ≡ length ks
history_long m s b [] [] t c h = refl
history_long m s b [] (a ∷ answers) t c h = absurd h
history_long m s b (k ∷ ks) [] t c h = absurd h
history_long m s b (k ∷ ks) (a ∷ answers) t c h = ap suc (history_long m h.0 h.1 ks answers t c h.3)

outcomes_long : (k : ℕ) (answers : List Answer) (os : List Outcome) → Outcomes k answers os → length os ≡ length answers
outcomes_long k [] [] h = refl
outcomes_long k (a ∷ answers) [] h = absurd h
outcomes_long k [] (o ∷ os) h = absurd h
outcomes_long k (a ∷ answers) (o ∷ os) h = ap suc (outcomes_long (suc k) answers os h.1)

asked_long : (n : ℕ) → length (domains_asked n) ≡ n
unfolding domains_asked
asked_long zero = refl
asked_long (suc n) = let k = length-append (domains_asked n) (asks_domain n ∷ []) in let e = asked_long n in omega arith

pub one_longer : (os later : List Outcome) (o : Outcome) (i : ℕ) → length os ≡ i → later ≡ os ++ (o ∷ []) → length later ≡ i + 1
one_longer os later o i e added = ap length added ∙ length-append os (o ∷ []) ∙ ap (λ k. k + 1) e

-- the first i moves were made, and there is room for the outcomes of the others
pub record Going {C : Type 0} (meaning : C → Meaning) (r : Running C) (moves : List Move) (i : ℕ) (os : Vec Outcome Global) (s : Running C) : Type 0 where
  pub made : MadeAll meaning r (map move_call (take i moves)) (vec_items os) s
  pub many : length (vec_items os) ≡ i
  pub len : vec_len os ≡ i
  pub spare : length moves ≤ vec_capacity os

module _ {C : Type 0} (meaning : C → Meaning) where
  -- one call was a step of the law
  pub led_step : (r r' : Running C) (k : Call) (a : Answer) → Led meaning r (k ∷ []) (a ∷ []) r' → Step (meaning r.network.catalog) (moment_at r) k a (moment_at r')
  led_step r r' k a l =
      subst (λ v. Step (meaning r.network.catalog) (moment_at r) k a v) (sym l.history.3.0) l.history.2.step

  -- some calls, and then others
  pub led_on : (r s t : Running C) (ks ls : List Call) (as₁ as₂ : List Answer) → Led meaning r ks as₁ s → Led meaning s ls as₂ t → Led meaning r (ks ++ ls) (as₁ ++ as₂) t
  led_on r s t ks ls as₁ as₂ p q = record {
    stands = q.stands;
    catalog = q.catalog ∙ p.catalog;
    history =
        join (meaning r.network.catalog) (moment_at r) (moment_at s) (moment_at t) (held r) (held s) (held t) ks as₁ ls as₂ p.history
        (subst (λ c. History (meaning c) (moment_at s) (held s) ls as₂ (moment_at t) (held t)) p.catalog q.history);
  }

  -- a move's answer says what came of it
  pub move_known : (r r' : Running C) (before : ℕ) (v : Move) (k : Call) (a : Answer) → k ≡ move_call v → Led meaning r (k ∷ []) (a ∷ []) r' → is_some (outcome before a) ≡ true
  move_known r r' before v k a e l =
      let step = led_step r r' (move_call v) a (subst (λ j. Led meaning r (j ∷ []) (a ∷ []) r') e l) in
      ⊎_elim (λ c. ap (λ b. is_some (outcome before b)) c.1) (λ c. ap (λ b. is_some (outcome before b)) c.1) (move_answers _ _ _ v a step).0

  pub made_one : (r r' : Running C) (before : ℕ) (v : Move) (k : Call) (a : Answer) (o : Outcome) → k ≡ move_call v → Led meaning r (k ∷ []) (a ∷ []) r' → outcome before a ≡ Some o
      → MadeOne meaning r before v o r'
  made_one r r' before v k a o e l move_of =
      let led : Led meaning r (move_call v ∷ []) (a ∷ []) r' = subst (λ j. Led meaning r (j ∷ []) (a ∷ []) r') e l in
      record { answer = a; led = led; outcome = move_of; sizes = (move_answers _ _ _ v a (led_step r r' (move_call v) a led)).1 }

  -- no call
  pub led_none : (r : Running C) → Stands meaning r.network → Led meaning r [] [] r
  led_none r h = record { stands = h; catalog = refl; history = (refl, refl) }

  -- no move yet, and one more
  pub none_made : (r : Running C) (moves : List Move) → Stands meaning r.network → MadeAll meaning r (map move_call (take 0 moves)) [] r
  none_made r moves h = record { answers = []; led = led_none r h; outcomes = tt; sizes = refl }

  pub made_more : (r s t : Running C) (moves : List Move) (i : ℕ) (d : Move) (os later : List Outcome) (o : Outcome) → i < length moves → length os ≡ i
      → MadeAll meaning r (map move_call (take i moves)) os s → MadeOne meaning s i (get_or moves i d) o t → later ≡ os ++ (o ∷ [])
      → MadeAll meaning r (map move_call (take (i + 1) moves)) later t
  made_more r s t moves i d os later o low long so_far one added =
      let call = move_call (get_or moves i d) in
      let more : map move_call (take (i + 1) moves) ≡ map move_call (take i moves) ++ (move_call (get_or moves i d) ∷ []) = map_more move_call moves i d low in
      let K : List Call → Type 0 = λ v. Led meaning r v (so_far.answers ++ (one.answer ∷ [])) t in
      let O : List Outcome → Type 0 = λ v. Outcomes 0 (so_far.answers ++ (one.answer ∷ [])) v in
      record {
        answers = so_far.answers ++ (one.answer ∷ []);
        led = subst K (sym more) (led_on r s t (map move_call (take i moves)) (call ∷ []) so_far.answers (one.answer ∷ []) so_far.led one.led);
        outcomes = subst O (sym added) (outcomes_more 0 so_far.answers os one.answer o so_far.outcomes (ap (λ k. outcome k one.answer) (let z : 0 + length os ≡ i = omega arith in z) ∙ one.outcome));
        sizes = one.sizes ∙ so_far.sizes;
      }

  -- one turn of the loop over the moves
  pub going_on : (r s t : Running C) (moves : List Move) (i : ℕ) (d : Move) (os later : Vec Outcome Global) (o : Outcome) → i < length moves
      → Going meaning r moves i os s → MadeOne meaning s i (get_or moves i d) o t → vec_items later ≡ vec_items os ++ (o ∷ []) → vec_len later ≡ vec_len os + 1 → vec_capacity later ≡ vec_capacity os
      → Going meaning r moves (i + 1) later t
  going_on r s t moves i d os later o low so_far one items len capacity = record {
    made = made_more r s t moves i d (vec_items os) (vec_items later) o low so_far.many so_far.made one items;
    many = one_longer (vec_items os) (vec_items later) o i so_far.many items;
    len = omega (arith, len, so_far.len);
    spare = omega (arith, capacity, so_far.spare);
  }

  -- no variable yet, and one more
  pub none_asked : (r : Running C) → Stands meaning r.network → Led meaning r (domains_asked 0) (map Domain []) r
  unfolding domains_asked
  none_asked r h = led_none r h

  pub asked_more : (r s t : Running C) (i d : ℕ) (ds later : List ℕ) → Led meaning r (domains_asked i) (map Domain ds) s → Led meaning s (asks_domain i ∷ []) (Domain d ∷ []) t → later ≡ ds ++ (d ∷ [])
      → Led meaning r (domains_asked (i + 1)) (map Domain later) t
  unfolding domains_asked
  asked_more r s t i d ds later so_far one added =
      let K : List Call → Type 0 = λ v. Led meaning r v (map Domain later) t in
      let A : List Answer → Type 0 = λ v. Led meaning r (domains_asked i ++ (asks_domain i ∷ [])) v t in
      subst K (ap domains_asked (sym (add-one i)))
      (subst A (sym (ap (map Domain) added ∙ map-append Domain ds (d ∷ [])))
      (led_on r s t (domains_asked i) (asks_domain i ∷ []) (map Domain ds) (Domain d ∷ []) so_far one))

  -- the whole run
  pub ran : (catalog : C) (r s t u : Running C) (sizes asked : List ℕ) (given : List Move) (os : List Outcome) (report : Report) → r.network.catalog ≡ catalog → Blank (moment_at r) → Right (meaning catalog) (moment_at r)
      → Led meaning r (opens sizes 0 ∷ []) (Opened ∷ []) s
      → given ≡ vec_items report.moves → MadeAll meaning s (map move_call given) (vec_items report.outcomes) t
      → os ≡ vec_items report.outcomes → report.refused ≡ count_by is_err os
      → asked ≡ sizes → Led meaning t (domains_asked (length asked)) (map Domain (vec_items report.domains)) u
      → Ran (meaning catalog) sizes (vec_items report.moves) report
  ran catalog r s t u sizes asked given os report same blank right opened given_is made os_is counted asked_is questions =
      let moves : List Move = vec_items report.moves in
      let M : List Move → Type 0 = λ ms. MadeAll meaning s (map move_call ms) (vec_items report.outcomes) t in
      let all_made : MadeAll meaning s (map move_call moves) (vec_items report.outcomes) t = subst M given_is made in
      let answers : List Answer = (Opened ∷ all_made.answers) ++ map Domain (vec_items report.domains) in
      let calls : List ℕ → List Call = λ ns. (opens sizes 0 ∷ map move_call moves) ++ domains_asked (length ns) in
      let moved : Led meaning r (opens sizes 0 ∷ map move_call moves) (Opened ∷ all_made.answers) t =
      led_on r s t (opens sizes 0 ∷ []) (map move_call moves) (Opened ∷ []) all_made.answers opened all_made.led in
      let all : Led meaning r (calls asked) answers u =
      led_on r t u (opens sizes 0 ∷ map move_call moves) (domains_asked (length asked)) (Opened ∷ all_made.answers) (map Domain (vec_items report.domains)) moved questions in
      let H : C → Type 0 = λ c. History (meaning c) (moment_at r) (held r) (calls asked) answers (moment_at u) (held u) in
      let K : List ℕ → Type 0 = λ ns. History (meaning catalog) (moment_at r) (held r) (calls ns) answers (moment_at u) (held u) in
      record {
        kept = refl;
        answers = all_made.answers;
        lent = held r;
        long = (r.wide, r.wide_returning);
        last = moment_at u;
        left = held u;
        run = record { first = moment_at r; blank = blank; right = right; history = subst K asked_is (subst H same all.history) };
        outcomes = all_made.outcomes;
        each_move =
            outcomes_long 0 all_made.answers (vec_items report.outcomes) all_made.outcomes
            ∙ history_long _ _ _ (map move_call moves) all_made.answers _ _ all_made.led.history
            ∙ length-map moves move_call;
        each_variable =
            sym (length-map (vec_items report.domains) Domain)
            ∙ history_long _ _ _ (domains_asked (length asked)) (map Domain (vec_items report.domains)) _ _ questions.history
            ∙ asked_long (length asked)
            ∙ ap length asked_is;
        refused = counted ∙ ap (count_by is_err) os_is;
      }
