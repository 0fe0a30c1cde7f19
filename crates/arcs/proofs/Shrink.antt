-- Putting out values that have no support keeps every consistent family inside.
use Rattle.std.proofs.Common.{◌≡◌, ℕ, true, false, ⊎_elim}
use Rattle.std.proofs.lemmas.Bool.{cases_Bool}
use Rattle.arcs.specs.Arcs.{Arcs}
use Rattle.arcs.specs.Family.{Family, Inside, Support, Consistent, Largest}
use Rattle.arcs.specs.Around.{Around, Lost}

-- the bound itself is around all of them
pub around_bound : (a : Arcs) (b : Family) → Around a b b
around_bound a b = record { inside = λ i x h. h; contains = λ g inside consistent. inside }

-- a consistent family inside f has no value that is without support in f
pub lost_out : (a : Arcs) (f g : Family) → Inside f g → Consistent a g → (i x : ℕ) → Lost a f i x → g i x ≡ true → ⊥
lost_out a f g inside consistent i x lost h =
    let s : Support a g i lost.reason x = consistent i lost.reason x lost.on h in
    lost.bare s.value (inside (a.far i lost.reason) s.value s.shown) s.beside

-- so it stays inside what is left of f when such values are put out
pub shrink
    : (a : Arcs) (b f f' : Family) → Around a b f → Inside f f' → ((i x : ℕ) → f i x ≡ true → f' i x ≡ false → Lost a f i x) → Around a b f'
shrink a b f f' around smaller lost =
    record {
      inside = λ i x h. around.inside i x (smaller i x h);
      contains =
          λ g inside consistent i x h.
          ⊎_elim (λ t. t)
          (λ out.
          absurd
          (lost_out a f g (around.contains g inside consistent) consistent i x
          (lost i x (around.contains g inside consistent i x h) out) h))
          (cases_Bool (f' i x));
    }

-- when nothing more is without support, the family is the largest
pub around_largest : (a : Arcs) (b f : Family) → Around a b f → Consistent a f → Largest a b f
around_largest a b f around consistent = record { inside = around.inside; consistent = consistent; contains = around.contains }
