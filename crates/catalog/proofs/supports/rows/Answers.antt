use Rattle.std.proofs.Common.{◌≡◌, ℕ, get_or, replicate, refl, arith, ⊎_elim}
use Rattle.std.proofs.lemmas.Bool.{cases_lt}
use Rattle.std.proofs.lemmas.List.{get_or-replicate, get_or_past, length-replicate}
use Rattle.catalog.proofs.supports.rows.Goals as goal

empty : (z : ℕ) → get_or {A = ℕ} (replicate 64 0) z 0 ≡ 0
empty z =
    ⊎_elim (λ l. get_or-replicate 64 z 0 0 l) (λ g. get_or_past (replicate 64 0) z 0 (omega (arith, length-replicate {A = ℕ} 64 0))) (cases_lt z 64)

pub loop-x-init : goal.loop-x-init
loop-x-init g c = record { long = refl; done = λ z y h. absurd (omega arith); later = λ z h. empty z }
