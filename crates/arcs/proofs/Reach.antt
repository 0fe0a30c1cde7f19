-- A value that is out with everything justified is in no consistent family; so what is consistent and justified is largest.
use Rattle.std.proofs.Common.{◌≡◌, ℕ, zero, suc, ◌<◌, true, false, ⊎_elim, arith}
use Rattle.std.proofs.lemmas.Bool.{cases_Bool}
use Rattle.arcs.specs.Arcs.{Arcs}
use Rattle.arcs.specs.Family.{Family, Inside, Support, Consistent}
use Rattle.arcs.specs.Standing.{Standing, Out, Accounts, Justified}
use Rattle.arcs.specs.Justifying.{OutOfEvery, JustifiedLargest}

-- by induction on a bound for the time: a support would be out since before
out_before : (a : Arcs) (b : Family) (s : Standing) → Justified a b s → (g : Family) → Inside b g → Consistent a g → (n i x : ℕ) → s.time i x < n → Out b s i x → g i x ≡ true → ⊥
out_before a b s j g ins con zero i x l out h = omega arith
out_before a b s j g ins con (suc n) i x l out h =
    let acc : Accounts a b s i x (s.reason i x) (s.time i x) = j i x out in
    let sup : Support a g i (s.reason i x) x = con i (s.reason i x) x acc.on h in
    let within : b (a.far i (s.reason i x)) sup.value ≡ true = ins (a.far i (s.reason i x)) sup.value sup.shown in
    let gone : s.shown (a.far i (s.reason i x)) sup.value ≡ false = acc.gone sup.value within sup.beside in
    let before : s.time (a.far i (s.reason i x)) sup.value < s.time i x = acc.before sup.value within sup.beside in
    out_before a b s j g ins con n (a.far i (s.reason i x)) sup.value (omega arith) (record { inside = within; gone = gone }) sup.shown

pub out_of_every : OutOfEvery
out_of_every a b s j g ins con i x out =
    ⊎_elim (λ h. absurd (out_before a b s j g ins con (suc (s.time i x)) i x (omega arith) out h)) (λ h. h) (cases_Bool (g i x))

pub justified_largest : JustifiedLargest
justified_largest a b s j ins con =
    record {
      inside = ins;
      consistent = con;
      contains = λ g gins gcon i x h.
          ⊎_elim (λ t. t)
          (λ t. absurd (out_before a b s j g gins gcon (suc (s.time i x)) i x (omega arith) (record { inside = gins i x h; gone = t }) h))
          (cases_Bool (s.shown i x));
    }
