-- One call more of a list.
use Rattle.std.proofs.Common.{◌≡◌, ℕ, ◌+◌, ◌-◌, ◌<◌, ◌≤◌, min, List, [], ◌∷◌, ◌++◌, length, get_or, set, take, drop, sym, ap, ◌∙◌, subst, ⊎_elim, arith}
use Rattle.std.proofs.lemmas.Bool.{cases_lt}
use Rattle.std.proofs.lemmas.List.{map_more, take_more_set, take_all, drop-drop, length-set, drop-set-lt}
use Rattle.catalog.specs.Meaning.{Meaning}
use Rattle.domains.specs.declared.Returning.{Returning}
use Rattle.domains.specs.Stands.{Past}
use Rattle.network.specs.declared.law.Answer.{Answer}
use Rattle.network.specs.Buffers.{Buffers}
use Rattle.network.specs.Calls.{Lengths, Call as Asked}
use Rattle.network.specs.Moment.{Moment}
use Rattle.network.specs.History.{Performed, History}
use Rattle.network.proofs.Histories.{one_more}
use Rattle.network.specs.declared.state.State.{State}
use Rattle.network.specs.Model.{moment_of}
use Rattle.network.specs.Performs.{TookLent, lengths_of}
use Rattle.network.specs.Requests.{call_of, calls_of}
use Rattle.network.specs.declared.calls.Call.{Call}

pub past_trans : {T : Type 0} (n : ℕ) (a b c : List T) → Past n a b → Past n b c → Past n a c
past_trans n a b c p q = record { long = q.long ∙ p.long; rest = q.rest ∙ p.rest }

pub past_more : {T : Type 0} (n m : ℕ) (a b : List T) → n ≤ m → Past n a b → Past m a b
past_more {T} n m a b h p =
    let split : (xs : List T) → drop m xs ≡ drop (m - n) (drop n xs) =
    λ xs. ap (λ k. drop k xs) (let e : m ≡ n + (m - n) = omega (arith, h) in e) ∙ sym (drop-drop (m - n) n xs)
    in
    record { long = p.long; rest = split b ∙ ap (drop (m - n)) p.rest ∙ sym (split a) }

-- one entry more is written
pub past_set : {T : Type 0} (i : ℕ) (a b : List T) (x : T) → Past i a b → Past (i + 1) a (set b i x)
past_set i a b x p =
    let more = past_more i (i + 1) a b (omega arith) p in
    record { long = length-set b i x ∙ p.long; rest = drop-set-lt (i + 1) b i x (omega arith) ∙ more.rest }

-- the first so many, where there may be fewer
pub take_there : {T : Type 0} (n m : ℕ) (xs : List T) → n ≡ min (length xs) m → take n xs ≡ take m xs
take_there n m xs e =
    ⊎_elim
    (λ l. ap (λ k. take k xs) (let f : n ≡ m = omega (arith, e, l) in f))
    (λ g. take_all n xs (omega (arith, e, g)) ∙ sym (take_all m xs (omega (arith, g))))
    (cases_lt m (length xs))

-- buffers that are as long as they were
pub same_lengths : (w w' : List ℕ) (r r' : List Returning) → Past 128 w w' → Past 2048 r r' → lengths_of w' r' ≡ lengths_of w r
same_lengths w w' r r' p q k = record { waiting = p.long k; returning = q.long k }

-- one call more at the end
pub lent_more
    : (m m' : Meaning) (first : Moment) (b c d : Buffers) (ks : List Asked) (answers : List Answer) (k : Asked) (a : Answer) (s s' : State) → m' ≡ m
    → History m first b ks answers (moment_of s) c → TookLent m' s c k a s' d → History m first b (ks ++ (k ∷ [])) (answers ++ (a ∷ [])) (moment_of s') d
lent_more m m' first b c d ks answers k a s s' same history took =
    one_more m first (moment_of s) (moment_of s') b c d ks answers k a history (subst (λ v. Performed v (moment_of s) c k a (moment_of s') d) same took.performed)

pub call_more
    : (m m' : Meaning) (first : Moment) (b c d : Buffers) (calls : List Call) (i : ℕ) (default : Call) (lengths lengths' : Lengths) (answers : List Answer) (a : Answer) (s s' : State)
    → i < length calls → i < length answers → lengths' ≡ lengths → m' ≡ m
    → History m first b (calls_of lengths (take i calls)) (take i answers) (moment_of s) c → TookLent m' s c (call_of lengths' (get_or calls i default)) a s' d
    → History m first b (calls_of lengths (take (i + 1) calls)) (take (i + 1) (set answers i a)) (moment_of s') d
call_more m m' first b c d calls i default lengths lengths' answers a s s' low there lent same history did =
    let call : Call = get_or calls i default in
    let U : Lengths → Type 0 = λ v. TookLent m' s c (call_of v call) a s' d in
    let more : calls_of lengths (take (i + 1) calls) ≡ calls_of lengths (take i calls) ++ (call_of lengths call ∷ []) =
    map_more (call_of lengths) calls i default low
    in
    let H : List Asked → Type 0 = λ v. History m first b v (take i answers ++ (a ∷ [])) (moment_of s') d in
    let K : List Answer → Type 0 = λ v. History m first b (calls_of lengths (take (i + 1) calls)) v (moment_of s') d in
    subst K (sym (take_more_set answers i a there))
    (subst H (sym more) (lent_more m m' first b c d (calls_of lengths (take i calls)) (take i answers) (call_of lengths call) a s s' same history (subst U lent did)))
