-- That written-out domains are the largest, by one computed test: each value that is out has a reason, in an order in which what
-- would support it is out before it, and each value that is in has a support.
use Rattle.std.proofs.Common.{◌≡◌, ℕ, ◌<◌, Bool, true, false, not, ◌&&◌, ◌||◌, eqb, ltb, List, [], ◌∷◌, length, get_or, sym, refl, ap, ◌∙◌, ⊎_elim, arith}
use Rattle.std.proofs.lemmas.List.{get_or_past}
use Rattle.std.proofs.lemmas.Bool.{and_parts, or_cases, eqb-true, ltb-true, cases_lt, both_ways, not-true, false≢true, or_left, or_right, eq-eqb}
use Rattle.arcs.specs.Arcs.{Arcs}
use Rattle.arcs.specs.Family.{Family, Inside, Support, Consistent, Largest, within_sizes}
use Rattle.catalog.specs.Meaning.{Meaning}
use Rattle.catalog.specs.Constraints.{arcs_of}
use Rattle.catalog.specs.Table.{all_below}
use Rattle.catalog.proofs.Tables.{at_each}
use Rattle.scratch.specs.Named.{named}
use Rattle.samples.specs.Sets.{among, sets_of, LargestUnder}

abbrev every : (ℕ → Bool) → List ℕ → Bool
every f [] = true
every f (x ∷ xs) = f x && every f xs

abbrev some : (ℕ → Bool) → List ℕ → Bool
some f [] = false
some f (x ∷ xs) = f x || some f xs

of_every : (f : ℕ → Bool) (xs : List ℕ) (x : ℕ) → every f xs ≡ true → among x xs ≡ true → f x ≡ true
of_every f [] x t h = absurd (false≢true h)
of_every f (y ∷ ys) x t h =
    ⊎_elim (λ e. ap f (eqb-true x y e) ∙ (and_parts (f y) (every f ys) t).0) (of_every f ys x (and_parts (f y) (every f ys) t).1)
    (or_cases (eqb x y) (among x ys) h)

-- a value that is out, with its variable and its reason
abbrev pub Out : Type 0
Out = ℕ × ℕ × ℕ

abbrev gone : List Out → ℕ → ℕ → Bool
gone [] i x = false
gone (o ∷ os) i x = (eqb o.0 i && eqb o.1 x) || gone os i x

-- each value that is out has a reason that is on, under which nothing supports it but what is out before it, further down the list
abbrev accounted : Arcs → List ℕ → List Out → Bool
accounted a sizes [] = true
accounted a sizes (o ∷ os) =
    a.on o.0 o.2
    && (all_below (λ y. gone os (a.far o.0 o.2) y || not (a.fits o.0 o.2 o.1 y)) (get_or sizes (a.far o.0 o.2) 0)
    && accounted a sizes os)

never : (a : Arcs) (sizes : List ℕ) (g : Family) → Inside (within_sizes sizes) g → Consistent a g
    → (os : List Out) → accounted a sizes os ≡ true → (i x : ℕ) → gone os i x ≡ true → g i x ≡ true → ⊥
never a sizes g n c [] t i x h e = false≢true h
never a sizes g n c (o ∷ os) t i x h e =
    let far : ℕ = a.far o.0 o.2 in
    let parts : (a.on o.0 o.2 ≡ true) × ((all_below (λ y. gone os far y || not (a.fits o.0 o.2 o.1 y)) (get_or sizes far 0) && accounted a sizes os) ≡ true) = and_parts _ _ t in
    let rest : (all_below (λ y. gone os far y || not (a.fits o.0 o.2 o.1 y)) (get_or sizes far 0) ≡ true) × (accounted a sizes os ≡ true) = and_parts _ _ parts.1 in
    ⊎_elim
    (λ q.
    let same : (eqb o.0 i ≡ true) × (eqb o.1 x ≡ true) = and_parts _ _ q in
    let s : Support a g o.0 o.2 o.1 = c o.0 o.2 o.1 parts.0 (ap (λ v. g v o.1) (eqb-true o.0 i same.0) ∙ ap (λ v. g i v) (eqb-true o.1 x same.1) ∙ e) in
    let low : s.value < get_or sizes far 0 = ltb-true s.value (get_or sizes far 0) (n far s.value s.shown) in
    ⊎_elim (λ z. never a sizes g n c os rest.1 far s.value z s.shown)
    (λ z. both_ways (a.fits o.0 o.2 o.1 s.value) (not-true _ z) s.beside)
    (or_cases _ _ (at_each (λ y. gone os far y || not (a.fits o.0 o.2 o.1 y)) (get_or sizes far 0) s.value rest.0 low)))
    (λ q. never a sizes g n c os rest.1 i x q e) (or_cases _ _ h)

-- the values listed lie inside the sizes
abbrev inside_sizes : List ℕ → List (List ℕ) → Bool
inside_sizes sizes sets = all_below (λ i. every (λ x. ltb x (get_or sizes i 0)) (get_or sets i [])) (length sets)

-- under each reason below n, each value listed has a support
abbrev supported : Arcs → ℕ → List (List ℕ) → Bool
supported a n sets =
    all_below (λ i. all_below (λ r. not (a.on i r) || every (λ x. some (a.fits i r x) (get_or sets (a.far i r) [])) (get_or sets i [])) n) (length sets)

-- each value inside the sizes is listed or out
abbrev covered : List ℕ → List (List ℕ) → List Out → Bool
covered sizes sets os = all_below (λ i. all_below (λ x. among x (get_or sets i []) || gone os i x) (get_or sizes i 0)) (length sizes)

abbrev pub settled : Arcs → ℕ → List ℕ → List (List ℕ) → List Out → Bool
settled a n sizes sets os = inside_sizes sizes sets && (supported a n sets && (covered sizes sets os && accounted a sizes os))

-- a variable past the list has no values
low_variable : (sets : List (List ℕ)) (i x : ℕ) → among x (get_or sets i []) ≡ true → i < length sets
low_variable sets i x h =
    ⊎_elim (λ l. l) (λ l. absurd (false≢true (sym (ap (λ xs. among x xs) (get_or_past sets i [] l)) ∙ h))) (cases_lt i (length sets))

low_size : (sizes : List ℕ) (i x : ℕ) → x < get_or sizes i 0 → i < length sizes
low_size sizes i x h = ⊎_elim (λ l. l) (λ l. absurd (omega (arith, get_or_past sizes i 0 l))) (cases_lt i (length sizes))

inside : (sizes : List ℕ) (sets : List (List ℕ)) → inside_sizes sizes sets ≡ true → Inside (within_sizes sizes) (sets_of sets)
inside sizes sets t i x h =
    of_every (λ y. ltb y (get_or sizes i 0)) (get_or sets i []) x
    (at_each (λ j. every (λ y. ltb y (get_or sizes j 0)) (get_or sets j [])) (length sets) i t (low_variable sets i x h)) h

of_some : (f : ℕ → Bool) (xs : List ℕ) → some f xs ≡ true → (x : ℕ) × (among x xs ≡ true) × (f x ≡ true)
of_some f [] t = absurd (false≢true t)
of_some f (x ∷ xs) t =
    ⊎_elim (λ e. (x, or_left (eqb x x) (among x xs) (eq-eqb x x refl), e))
    (λ e. let r : (y : ℕ) × (among y xs ≡ true) × (f y ≡ true) = of_some f xs e in (r.0, or_right (eqb r.0 x) (among r.0 xs) r.1, r.2)) (or_cases (f x) (some f xs) t)

consistent : (a : Arcs) (n : ℕ) (sets : List (List ℕ)) → ((i r : ℕ) → a.on i r ≡ true → r < n) → supported a n sets ≡ true → Consistent a (sets_of sets)
consistent a n sets few t i r x on h =
    let each : ℕ → Bool = λ j. all_below (λ q. not (a.on j q) || every (λ z. some (a.fits j q z) (get_or sets (a.far j q) [])) (get_or sets j [])) n in
    let w : (not (a.on i r) || every (λ z. some (a.fits i r z) (get_or sets (a.far i r) [])) (get_or sets i [])) ≡ true =
    at_each (λ q. not (a.on i q) || every (λ z. some (a.fits i q z) (get_or sets (a.far i q) [])) (get_or sets i [])) n r (at_each each (length sets) i t (low_variable sets i x h)) (few i r on) in
    let s : (y : ℕ) × (among y (get_or sets (a.far i r) []) ≡ true) × (a.fits i r x y ≡ true) =
    of_some (a.fits i r x) (get_or sets (a.far i r) [])
    (of_every (λ z. some (a.fits i r z) (get_or sets (a.far i r) [])) (get_or sets i []) x
    (⊎_elim (λ z. absurd (both_ways (a.on i r) (not-true _ z) on)) (λ z. z) (or_cases _ _ w)) h) in
    record { value = s.0; shown = s.1; beside = s.2 }

pub largest : (a : Arcs) (n : ℕ) (sizes : List ℕ) (sets : List (List ℕ)) (os : List Out)
    → ((i r : ℕ) → a.on i r ≡ true → r < n) → settled a n sizes sets os ≡ true → Largest a (within_sizes sizes) (sets_of sets)
largest a n sizes sets os few t =
    let u : (inside_sizes sizes sets ≡ true) × ((supported a n sets && (covered sizes sets os && accounted a sizes os)) ≡ true) = and_parts _ _ t in
    let v : (supported a n sets ≡ true) × ((covered sizes sets os && accounted a sizes os) ≡ true) = and_parts _ _ u.1 in
    let w : (covered sizes sets os ≡ true) × (accounted a sizes os ≡ true) = and_parts _ _ v.1 in
    record {
      inside = inside sizes sets u.0;
      consistent = consistent a n sets few v.0;
      contains = λ g b c i x h.
          let low : x < get_or sizes i 0 = ltb-true x (get_or sizes i 0) (b i x h) in
          ⊎_elim (λ z. z) (λ z. absurd (never a sizes g b c os w.1 i x z h))
          (or_cases (among x (get_or sets i [])) (gone os i x)
          (at_each (λ y. among y (get_or sets i []) || gone os i y) (get_or sizes i 0) x
          (at_each (λ j. all_below (λ y. among y (get_or sets j []) || gone os j y) (get_or sizes j 0)) (length sizes) i w.0 (low_size sizes i x low)) low));
    }

pub largest_under : (m : Meaning) (sizes indices : List ℕ) (sets : List (List ℕ)) (os : List Out)
    → settled (arcs_of m (named indices)) m.count sizes sets os ≡ true → LargestUnder m sizes indices sets
largest_under m sizes indices sets os t =
    largest (arcs_of m (named indices)) m.count sizes sets os
    (λ i r on. ltb-true r m.count (and_parts (ltb r m.count) _ (and_parts (named indices r) _ on).1).0) t
