-- At most one family is largest; the union of two consistent ones is consistent; at most one variable is the wiped-out one.
use Rattle.std.proofs.Common.{◌≡◌, ℕ, Bool, true, false, Some, None, sym, refl, ap, ⊎_elim}
use Rattle.std.proofs.lemmas.Bool.{cases_order, both_ways, or_cases, or_left, or_right}
use Rattle.arcs.specs.Arcs.{Arcs}
use Rattle.arcs.specs.Family.{Family, Inside, Support}
use Rattle.arcs.specs.WipedOut.{Empty, Shown}
use Rattle.arcs.specs.Theorems.{UnionConsistent, OneLargest, OneWipedOut, union}

-- two tests that imply each other are equal
same_tests : (s t : Bool) → (s ≡ true → t ≡ true) → (t ≡ true → s ≡ true) → s ≡ t
same_tests true t p q = sym (p refl)
same_tests false true p q = q refl
same_tests false false p q = refl

pub one_largest : OneLargest
one_largest a b f g lf lg i x =
    same_tests (f i x) (g i x) (lg.contains f lf.inside lf.consistent i x) (lf.contains g lg.inside lg.consistent i x)

-- a support stays one in a larger family
support_in : (a : Arcs) (f g : Family) → Inside g f → (i r x : ℕ) → Support a f i r x → Support a g i r x
support_in a f g inside i r x s =
    record { value = s.value; shown = inside (a.far i r) s.value s.shown; beside = s.beside }

pub union_consistent : UnionConsistent
union_consistent a f g cf cg i r x on h =
    ⊎_elim (λ t. support_in a f (union f g) (λ j y s. or_left (f j y) (g j y) s) i r x (cf i r x on t))
    (λ t. support_in a g (union f g) (λ j y s. or_right (f j y) (g j y) s) i r x (cg i r x on t))
    (or_cases (f i x) (g i x) h)

empty_shown : (f : Family) (i : ℕ) → Empty f i → Shown f i → ⊥
empty_shown f i e s = both_ways (f i s.0) (e s.0) s.1

pub one_wiped_out : OneWipedOut
one_wiped_out f n None None p q = refl
one_wiped_out f n (Some i) None p q = absurd (empty_shown f i p.empty (q i p.below))
one_wiped_out f n None (Some j) p q = absurd (empty_shown f j q.empty (p j q.below))
one_wiped_out f n (Some i) (Some j) p q =
    ⊎_elim (λ e. ap Some e)
    (⊎_elim (λ h. absurd (empty_shown f i p.empty (q.before i h)))
    (λ h. absurd (empty_shown f j q.empty (p.before j h))))
    (cases_order i j)
