-- A network newly made, and the opening of one.
use Rattle.std.proofs.Common.{◌≡◌, ℕ, ◌<◌, ◌≤◌, min, Bool, false, ltb, List, length, get_or, take, replicate, None, sym, refl, ap, ◌∙◌, subst, ⊎_elim, arith}
use Rattle.std.proofs.lemmas.List.{length-take-le, length-replicate, get_or-take, get_or_past, get_or_default, get_or-replicate, same_lists}
use Rattle.std.proofs.lemmas.Bool.{both_ways, cases_lt, lt-ltb, le-ltb, cond-true, cond-false}
use Rattle.catalog.specs.Meaning.{Meaning, Lawful}
use Rattle.catalog.specs.Causes.{sizes_refusal}
use Rattle.catalog.proofs.Sizes.{Fitting, sizes_accepted}
use Rattle.domains.specs.declared.Constraints.{Constraints}
use Rattle.domains.specs.declared.Domains.{Domains}
use Rattle.domains.specs.Make.{no_constraints, no_domains}
use Rattle.domains.specs.Model.{is_present, shown}
use Rattle.engine.specs.Calls.{Opened as OpenedIn}
use Rattle.network.specs.declared.law.Answer.TheVariants.{Opened}
use Rattle.network.specs.Moment.{Moment, Blank}
use Rattle.network.specs.Calls.{opens}
use Rattle.network.specs.Step.{Step, Turned}
use Rattle.network.specs.Model.{moment, Links}
use Rattle.network.proofs.Steps.{out_here, right_here}

unset : (n p : ℕ) → get_or (replicate n false) p false ≡ false
unset n p =
    ⊎_elim (λ l. get_or-replicate n p false false l) (λ g. get_or_past (replicate n false) p false (omega (arith, length-replicate n false))) (cases_lt p n)

-- where no constraint is in and none is known
links_none : (m : Meaning) (c : Constraints) (n : ℕ) (known : List Bool) → n ≤ 32 → known ≡ replicate 128 false → ((i : ℕ) → n ≤ i → get_or c.sizes i 0 ≡ 0) → ((p : ℕ) → is_present c p ≡ false) → Links m c n known
links_none m c n known few e past none =
    record {
      few = few;
      past = past;
      long = ap length e ∙ length-replicate 128 false;
      present = λ p h. absurd (both_ways (is_present c p) (none p) h);
      means = λ p h. absurd (both_ways (get_or known p false) (ap (λ v. get_or v p false) e ∙ unset 128 p) h);
    }

pub no_size : (n i : ℕ) → get_or {A = ℕ} (replicate n 0) i 0 ≡ 0
no_size n i =
    ⊎_elim (λ l. get_or-replicate n i 0 0 l) (λ g. get_or_past (replicate n 0) i 0 (omega (arith, length-replicate {A = ℕ} n 0))) (cases_lt i n)

pub links_new : (m : Meaning) (c : Constraints) (known : List Bool) → c ≡ no_constraints → known ≡ replicate 128 false → Links m c 0 known
links_new m c known e k =
    links_none m c 0 known (omega arith) k (λ i _. ap (λ v. get_or v.sizes i 0) e ∙ no_size 32 i) (λ p. ap (λ v. is_present v p) e ∙ unset 128 p)

pub blank_new : (c : Constraints) (d : Domains) → c ≡ no_constraints → d ≡ no_domains → Blank (moment c d 0)
blank_new c d e f =
    record { sizes = refl; present = λ p. ap (λ v. is_present v p) e ∙ unset 128 p; clock = ap (λ v. v.clock) f }

module _ (m : Meaning) (lawful : Lawful m) (c c' : Constraints) (d' : Domains) (sizes given : List ℕ) (time : ℕ) (fits : sizes_refusal sizes ≡ None)
    (same : (i : ℕ) → get_or given i 0 ≡ get_or sizes i 0) (long : length c'.sizes ≡ 32) (opened : OpenedIn c c' d' given time) where
  fitting : Fitting sizes
  fitting = sizes_accepted sizes fits

  size_small : (i : ℕ) → get_or sizes i 0 ≤ 64
  size_small i =
      ⊎_elim (λ l. (fitting.each i l).1) (λ g. let z : get_or sizes i 0 ≡ 0 = get_or_past sizes i 0 g in omega arith) (cases_lt i (length sizes))

  size_at : (i : ℕ) → get_or c'.sizes i 0 ≡ get_or sizes i 0
  size_at i =
      opened.sizes i
      ∙ ⊎_elim
      (λ l. cond-true (ltb i 32) (min 64 (get_or given i 0)) 0 (lt-ltb i 32 l) ∙ ap (min 64) (same i) ∙ (let s : get_or sizes i 0 ≤ 64 = size_small i in omega arith))
      (λ g. cond-false (ltb i 32) (min 64 (get_or given i 0)) 0 (le-ltb i 32 g) ∙ sym (get_or_past sizes i 0 (omega (arith, fitting.few))))
      (cases_lt i 32)

  pub links_open : (known : List Bool) → known ≡ replicate 128 false → Links m c' (length sizes) known
  links_open known k = links_none m c' (length sizes) known fitting.few k (λ i h. size_at i ∙ get_or_past sizes i 0 h) opened.none

  sizes_list : take (length sizes) c'.sizes ≡ sizes
  sizes_list =
      let few : length sizes ≤ length c'.sizes = omega (arith, fitting.few) in
      let as_long : length (take (length sizes) c'.sizes) ≡ length sizes = length-take-le (length sizes) c'.sizes few in
      same_lists (take (length sizes) c'.sizes) sizes as_long
      (λ k v h.
      let low : k < length sizes = omega arith in
      get_or-take (length sizes) c'.sizes k v low ∙ get_or_default c'.sizes k v 0 (omega arith) ∙ size_at k ∙ get_or_default sizes k 0 v low)

  pub step_open : (s : Moment) → Step m s (opens sizes time) Opened (moment c' d' (length sizes))
  step_open s =
      record {
        turned =
            subst (λ o. Turned o m s (opens sizes time) Opened (moment c' d' (length sizes))) (sym fits)
            (record {
              book = record { sizes = sizes_list; present = opened.none };
              kept = λ i x out free. absurd (free tt);
              dated = λ i x out _. absurd (both_ways (shown d' i x) out.gone (opened.all i x ∙ (out_here m lawful c' d' (length sizes) (replicate 128 false) (links_open (replicate 128 false) refl) i x out).inside));
              answer = record { opened = refl; all = λ i x. opened.all i x ∙ ap (ltb x) (size_at i); clock = opened.clock };
            });
        right = right_here m lawful c' d' (length sizes) (replicate 128 false) (links_open (replicate 128 false) refl) opened.stands;
      }
