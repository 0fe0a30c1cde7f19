-- The same largest family under other arcs that ask the same, and inside a bound with the same values.
use Rattle.std.proofs.Common.{◌≡◌, ℕ, true, sym, ◌∙◌, subst}
use Rattle.arcs.specs.Arcs.{Arcs}
use Rattle.arcs.specs.Family.{Family, Inside, Support, Consistent, Largest}

-- What the reason r of `a` asks of i inside the bound, some reason of `a'` asks too.
pub record Asked (b : Family) (a a' : Arcs) (i r : ℕ) : Type 0 where
  pub reason : ℕ
  pub on : a'.on i reason ≡ true
  pub far : a'.far i reason ≡ a.far i r
  pub fits : (x y : ℕ) → b i x ≡ true → b (a.far i r) y ≡ true → a'.fits i reason x y ≡ true → a.fits i r x y ≡ true

-- whatever `a` asks inside the bound, `a'` asks too
abbrev pub Covers : Family → Arcs → Arcs → Type 0
Covers b a a' = (i r : ℕ) → a.on i r ≡ true → Asked b a a' i r

pub covers_consistent : (b : Family) (a a' : Arcs) (f : Family) → Covers b a a' → Inside b f → Consistent a' f → Consistent a f
covers_consistent b a a' f covers inside consistent i r x on h =
    let q : Asked b a a' i r = covers i r on in
    let s : Support a' f i q.reason x = consistent i q.reason x q.on h in
    let shown : f (a.far i r) s.value ≡ true = subst (λ j. f j s.value ≡ true) q.far s.shown in
    record {
      value = s.value;
      shown = shown;
      beside = q.fits x s.value (inside i x h) (inside (a.far i r) s.value shown) s.beside;
    }

pub covers_largest : (b : Family) (a a' : Arcs) (f : Family) → Covers b a a' → Covers b a' a → Largest a b f → Largest a' b f
covers_largest b a a' f there back l =
    record {
      inside = l.inside;
      consistent = covers_consistent b a' a f back l.inside l.consistent;
      contains = λ g inside consistent. l.contains g inside (covers_consistent b a a' g there inside consistent);
    }

pub same_bound : (a : Arcs) (b b' f : Family) → ((i x : ℕ) → b i x ≡ b' i x) → Largest a b f → Largest a b' f
same_bound a b b' f e l =
    record {
      inside = λ i x h. sym (e i x) ∙ l.inside i x h;
      consistent = l.consistent;
      contains = λ g inside consistent. l.contains g (λ i x h. e i x ∙ inside i x h) consistent;
    }
