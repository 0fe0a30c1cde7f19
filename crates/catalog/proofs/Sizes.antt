-- What the check of sizes finds.
use Rattle.std.proofs.Common.{◌≡◌, ℕ, zero, suc, ◌<◌, ◌≤◌, Bool, true, false, cond, ◌&&◌, ltb, List, [], ◌∷◌, length, get_or, Some, None, Option, refl, le_of_suc-le-suc, not-suc-le-zero, arith}
use Rattle.std.proofs.lemmas.Bool.{and_parts, ltb-true}
use Rattle.catalog.specs.declared.refusal.Refusal.{Refusal}
use Rattle.catalog.specs.declared.refusal.Refusal.TheVariants.{VariableCount, DomainSize}
use Rattle.catalog.specs.Causes.{first, sizes_fit, sizes_refusal}

-- what is known where the sizes are accepted

size_fits : (xs : List ℕ) → sizes_fit xs ≡ true → (i : ℕ) → i < length xs → (0 < get_or xs i 0) × (get_or xs i 0 ≤ 64)
size_fits [] e i h = absurd (not-suc-le-zero h)
size_fits (x ∷ xs) e zero h =
    let p = and_parts (ltb 0 x && ltb x 65) (sizes_fit xs) e in
    let q = and_parts (ltb 0 x) (ltb x 65) p.0 in
    (ltb-true 0 x q.0, omega (arith, ltb-true x 65 q.1))
size_fits (x ∷ xs) e (suc i) h = size_fits xs (and_parts (ltb 0 x && ltb x 65) (sizes_fit xs) e).1 i (le_of_suc-le-suc h)

-- from 1 to 32 sizes, each from 1 to 64
pub record Fitting (sizes : List ℕ) : Type 0 where
  pub some : 0 < length sizes
  pub few : length sizes ≤ 32
  pub each : (i : ℕ) → i < length sizes → (0 < get_or sizes i 0) × (get_or sizes i 0 ≤ 64)

some_none : {X : Type 0} (x : X) (P : Type 0) → Some x ≡ None → P
some_none x P e = let z : ◌≡◌ {A = ℕ} 0 1 = cc in absurd (omega arith)

-- where a test that would give a cause gives none, it passed
pub cond_none : {X : Type 0} (b : Bool) (o : Option X) (x : X) → cond b o (Some x) ≡ None → (b ≡ true) × (o ≡ None)
cond_none true o x e = (refl, e)
cond_none false o x e = some_none x _ e

-- where the first of two causes is none, neither holds
pub first_none : (a b : Option Refusal) → first a b ≡ None → (a ≡ None) × (b ≡ None)
first_none (Some x) b e = some_none x _ e
first_none None b e = (refl, e)

pub sizes_accepted : (sizes : List ℕ) → sizes_refusal sizes ≡ None → Fitting sizes
sizes_accepted sizes e =
    let p = cond_none (ltb 0 (length sizes) && ltb (length sizes) 33) (cond (sizes_fit sizes) None (Some DomainSize)) VariableCount e in
    let q = cond_none (sizes_fit sizes) None DomainSize p.1 in
    let r = and_parts (ltb 0 (length sizes)) (ltb (length sizes) 33) p.0 in
    record {
      some = ltb-true 0 (length sizes) r.0;
      few = omega (arith, ltb-true (length sizes) 33 r.1);
      each = size_fits sizes q.0;
    }
