-- A house number that is used is that of some variable.
use Rattle.std.proofs.Common.{◌≡◌, ℕ, ◌||◌, eqb, List, [], ◌∷◌, refl, ap}
use Rattle.std.specs.List.{list_any}
use Rattle.sheet_format.specs.declared.found.Variable.{Variable}
use Rattle.sheet_format.specs.Verdict.{used}

pub used_any : (vs : List Variable) (h : ℕ) → used vs h ≡ list_any (λ v. eqb v.house h) vs
used_any [] h = refl
used_any (v ∷ vs) h = ap (λ b. eqb v.house h || b) (used_any vs h)
