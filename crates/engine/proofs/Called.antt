-- What the tests before a call give, and what a call leaves.
use Rattle.std.proofs.Common.{subst, ◌≡◌, ℕ, ◌<◌, ◌≤◌, min, Bool, true, false, cond, not, ◌&&◌, ◌||◌, eqb, ltb, List, length, get_or, Some, None, sym, refl, ap, ◌∙◌}
use Rattle.std.specs.Option.{is_none}
use Rattle.std.proofs.lemmas.Bool.{and_parts, eqb-false, ltb-true, not-true}
use Rattle.arcs.specs.Family.{Consistent, Inside}
use Rattle.bits.specs.Bits.{domains_of}
use Rattle.domains.specs.declared.Constraints.{Constraints}
use Rattle.domains.specs.declared.Domains.{Domains}
use Rattle.domains.specs.declared.Ends.{Ends}
use Rattle.domains.specs.Make.{no_justifications}
use Rattle.domains.specs.Model.{arcs_of, is_present, shown, total}
use Rattle.domains.specs.Sound.{Shape, Sound}
use Rattle.domains.specs.Stands.{Stands}
use Rattle.domains.proofs.Entries.{total_inside}
use Rattle.domains.proofs.Props.{stands_largest, stands_out}
use Rattle.domains.proofs.Setup.{all_shown, none_at, reopened, sizes_small, stands_open}
use Rattle.engine.specs.declared.state.Engine.{Engine}
use Rattle.engine.specs.declared.fault.LoadFault.TheVariants.{NoSuchConstraint, AlreadyIn, EndOutside, SameEnds}
use Rattle.engine.specs.Calls.{Loadable, can_load, load_fault, Opened, Right}

-- an engine's constraints and domains stand rightly together
pub stood : (e : Engine) → Stands e.constraints e.domains
stood e = stands_out e.constraints e.domains e.stands

-- and so they do after a change, when the domains are consistent again
pub stands_again : (c : Constraints) (d : Domains) → Shape c → Sound c d → Consistent (arcs_of c) (shown d) → ∥ Stands c d ∥₁
stands_again c d shape sound consistent = ∣ record { shape = shape; sound = sound; consistent = consistent } ∣₁

pub right_now : (c : Constraints) (d : Domains) → Stands c d → Right c d
right_now c d s = record { largest = stands_largest c d s; justified = s.sound.justified; timed = s.sound.timed }

-- where every value is shown that was, no fewer are
pub more_shown : (c c' : Constraints) (d d' : Domains) → Stands c d → Stands c' d' → Inside (shown d') (shown d) → total d.sets ≤ total d'.sets
more_shown c c' d d' s s' grew =
    total_inside d.sets d'.sets (d.sets_long ∙ sym d'.sets_long) d.wide d'.wide grew

-- an opening
module _ (c : Constraints) (d d' : Domains) (given sizes sets : List ℕ) (time : ℕ) (stands : Stands c d) (long : length sizes ≡ 32) (capped : (i : ℕ) → get_or sizes i 0 ≡ cond (ltb i 32) (min 64 (get_or given i 0)) 0) (full : (i x : ℕ) → i < 32 → domains_of sets i x ≡ (ltb x (get_or sizes i 0) && ltb x 64)) (c' : Constraints) (same : reopened c sizes long ≡ c') (taken : d'.sets ≡ sets) (filled : d'.why ≡ no_justifications) (begun : d'.clock ≡ time) where
  all : (i x : ℕ) → i < 32 → shown d' i x ≡ (ltb x (get_or sizes i 0) && ltb x 64)
  all i x low = ap (λ s. domains_of s i x) taken ∙ full i x low

  pub afresh_stands : Stands c' d'
  afresh_stands = subst (λ k. Stands k d') same (stands_open c d d' sizes stands long (sizes_small sizes given capped) all)

  pub afresh_opened : Opened c c' d' given time
  afresh_opened =
      subst (λ k. Opened c k d' given time) same
      (record {
        sizes = capped;
        none = none_at 128;
        ends = refl;
        rows = refl;
        all = all_shown c d d' sizes stands long (sizes_small sizes given capped) all;
        why = filled;
        clock = begun;
        stands = right_now (reopened c sizes long) d' (stands_open c d d' sizes stands long (sizes_small sizes given capped) all);
      })

-- nothing speaks against it just where it can be
fault_none : (a b l r e : Bool) → (a && (not b && (l && (r && not e)))) ≡ is_none (cond (not a) (Some NoSuchConstraint) (cond b (Some AlreadyIn) (cond (not l || not r) (Some EndOutside) (cond e (Some SameEnds) None))))
fault_none false b l r e = refl
fault_none true true l r e = refl
fault_none true false false r e = refl
fault_none true false true false e = refl
fault_none true false true true true = refl
fault_none true false true true false = refl

can_or_fault : (c : Constraints) (p left right : ℕ) → can_load c p left right ≡ is_none (load_fault c p left right)
can_or_fault c p left right = fault_none (ltb p 128) (is_present c p) (ltb left 32) (ltb right 32) (eqb left right)

loadable : (c : Constraints) (p left right : ℕ) → None ≡ load_fault c p left right → Loadable c p left right
loadable c p left right none =
    let e : true ≡ can_load c p left right = ap is_none none ∙ sym (can_or_fault c p left right) in
    let a = and_parts (ltb p 128) _ (sym e) in
    let b = and_parts (not (is_present c p)) _ a.1 in
    let f = and_parts (ltb left 32) _ b.1 in
    let g = and_parts (ltb right 32) _ f.1 in
    record {
      low = ltb-true p 128 a.0;
      absent = not-true (is_present c p) b.0;
      left_low = ltb-true left 32 f.0;
      right_low = ltb-true right 32 g.0;
      apart = eqb-false left right (not-true (eqb left right) g.1);
    }

-- and ends that are these may be given
pub ends_loadable : (c : Constraints) (p left right : ℕ) (ends : Ends) → None ≡ load_fault c p left right → (ends.left ≡ left) × (ends.right ≡ right) → Loadable c p ends.left ends.right
ends_loadable c p left right ends none same =
    loadable c p ends.left ends.right (none ∙ ap (λ l. load_fault c p l right) (sym same.0) ∙ ap (load_fault c p ends.left) (sym same.1))
