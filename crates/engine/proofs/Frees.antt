-- Values come back through their queue.
use Rattle.std.proofs.Common.{◌≡◌, ℕ, ◌+◌, ◌*◌, ◌<◌, ◌≤◌, Bool, true, false, not, ◌&&◌, eqb, List, [], ◌∷◌, ◌++◌, length, sym, refl, ap, ◌∙◌, subst, ⊎_elim, arith, below_more}
use Rattle.std.proofs.lemmas.List.{append_assoc}
use Rattle.std.proofs.lemmas.Bool.{cases_Bool, both_ways, and_parts, not-true, eqb-true, eq-eqb, and_from, not_from_false}
use Rattle.bits.specs.Bits.{has_bit}
use Rattle.arcs.specs.Standing.{Out, Rests}
use Rattle.arcs.specs.Changes.{PutBack}
use Rattle.engine.proofs.Kept.{kept_trans}
use Rattle.engine.specs.declared.fifo.Queue.{Queue}
use Rattle.engine.specs.Waiting.{waits, Kept}
use Rattle.domains.specs.declared.Constraints.{Constraints}
use Rattle.domains.specs.declared.Domains.{Domains}
use Rattle.domains.specs.declared.Justification.{Justification}
use Rattle.domains.specs.declared.Returning.{Returning}
use Rattle.domains.specs.Model.{within, arcs_of, shown, standing, entry, total, reason_is}
use Rattle.domains.specs.Releasing.{Low, Releasing}
use Rattle.domains.proofs.Entries.{total_few}
use Rattle.domains.proofs.Release.{low_push, back_grows, back_cases, was_out, releasing_free}
use Rattle.engine.specs.Returns.{Spare, Grew, FreesAmong}

pub names_yes : (b : Bool) (m p : ℕ) → true ≡ (not b && eqb m p) → (b ≡ false) × (m ≡ p)
names_yes b m p e =
    let h : (not b ≡ true) × (eqb m p ≡ true) = and_parts (not b) (eqb m p) (sym e) in
    (not-true b h.0, eqb-true m p h.1)

pub names_no : (b : Bool) (m p : ℕ) → false ≡ (not b && eqb m p) → m ≡ p → b ≡ true
names_no b m p e f =
    ⊎_elim (λ t. t)
    (λ g. absurd (both_ways (not b && eqb m p) (sym e) (and_from (not b) (eqb m p) (not_from_false b g) (eq-eqb m p f)))) (cases_Bool b)

-- a value is bare just where it is shown and shares nothing with its row
pub bare_yes : (b : Bool) (s : ℕ) → true ≡ (b && eqb s 0) → (b ≡ true) × (s ≡ 0)
bare_yes b s e =
    let h : (b ≡ true) × (eqb s 0 ≡ true) = and_parts b (eqb s 0) (sym e) in
    (h.0, eqb-true s 0 h.1)

pub bare_no : (b : Bool) (s : ℕ) → false ≡ (b && eqb s 0) → b ≡ true → s ≡ 0 → ⊥
bare_no b s e h z = both_ways (b && eqb s 0) (sym e) (and_from b (eqb s 0) h (eq-eqb s 0 z))

-- there is room for one more, since it comes back
pub one_left : (d d' : Domains) (n limit : ℕ) → limit ≡ 2048 → n ≤ total d.sets → total d'.sets ≡ total d.sets + 1 → n < limit
one_left d d' n limit e few more =
    let t : total d'.sets ≤ 64 * length d'.sets = total_few d'.sets d'.wide in
    omega (arith, t, d'.sets_long)

pub grew_trans : (d d' d'' : Domains) (q q' q'' : Queue Returning) → Grew d d' q q' → Grew d' d'' q' q'' → Grew d d'' q q''
grew_trans d d' d'' q q' q'' a b =
    record {
      clock = b.clock ∙ a.clock;
      why = b.why ∙ a.why;
      shown = λ i x h. b.shown i x (a.shown i x h);
      more = omega (arith, a.more, b.more);
      even = omega (arith, a.even, b.even);
      kept = kept_trans q q' q'' a.kept b.kept;
    }

-- one value came back
module _ (c : Constraints) (d d' : Domains) (q q' : Queue Returning) (i x t : ℕ) (put : PutBack (standing d) (standing d') i x) (why : d'.why ≡ d.why) (more : total d'.sets ≡ total d.sets + 1) (waiting : waits q' ≡ waits q ++ (record { variable = i; value = x; time = t } ∷ [])) (len : q'.len ≡ q.len + 1) (kept : Kept q q') where
  pub spare_free : i < 32 → x < 64 → within c i x ≡ true → Spare c d q → Spare c d' q'
  spare_free il xl inside r =
      record {
        inside = λ j y h. ⊎_elim (λ o. r.inside j y o) (λ e. rw (← e.0, ← e.1) inside) (back_cases d d' i x put j y h);
        limit = kept.limit ∙ r.limit;
        few = omega (arith, r.few, more, len);
        low = let P : List Returning → Type 0 = λ w. Low w in subst P (sym waiting) (low_push (waits q) (record { variable = i; value = x; time = t }) r.low il xl);
      }

  pub grew_free : d'.clock ≡ d.clock → Grew d d' q q'
  grew_free clock =
      record { clock = clock; why = why; shown = back_grows d d' i x put; more = omega (arith, more); even = omega (arith, more, len); kept = kept }

  pub frees_free : (p : ℕ) (d₀ : Domains) (first : List Returning) → within c i x ≡ true → shown d i x ≡ false → (Out (within c) (standing d₀) i x → (standing d₀).reason i x ≡ (standing d).reason i x → Rests (arcs_of c) (within c) (standing d₀) (reason_is p) i x) → Releasing c p d₀ d (first ++ waits q) → Releasing c p d₀ d' (first ++ waits q')
  frees_free p d₀ first inside gone rests r =
      let P : List Returning → Type 0 = λ w. Releasing c p d₀ d' w in
      let e : Returning = record { variable = i; value = x; time = t } in
      let out : Out (within c) (standing d₀) i x = was_out c p d₀ d (first ++ waits q) i x r inside gone in
      let same : (standing d₀).reason i x ≡ (standing d).reason i x = ap (λ (w : List (List Justification)). (entry w i x).constraint) (sym r.why) in
      subst P (append_assoc first (waits q) (e ∷ []) ∙ ap (λ w. first ++ w) (sym waiting))
      (releasing_free c p d₀ d d' (first ++ waits q) e i x r put refl refl why out (rests out same))

-- on the way through the values of a variable
pub record Among (c : Constraints) (d d' : Domains) (q q' : Queue Returning) (i p among x : ℕ) : Type 0 where
  pub spare : Spare c d' q'
  pub grew : Grew d d' q q'
  pub frees : FreesAmong c d d' (waits q) (waits q') i p among
  pub below : (k : ℕ) → k < x → has_bit among k ≡ true → (entry d'.why i k).constraint ≡ p → shown d' i k ≡ true

pub among_skip : (c : Constraints) (d d' : Domains) (q q' : Queue Returning) (i p among x : ℕ) → (has_bit among x ≡ true → (entry d'.why i x).constraint ≡ p → shown d' i x ≡ true) → Among c d d' q q' i p among x → Among c d d' q q' i p among (x + 1)
among_skip c d d' q q' i p among x here a =
    record { spare = a.spare; grew = a.grew; frees = a.frees; below = below_more _ x a.below here }

module _ (c : Constraints) (d d' d'' : Domains) (q q' q'' : Queue Returning) (i p among x t : ℕ) (put : PutBack (standing d') (standing d'') i x) (why : d''.why ≡ d'.why) (more : total d''.sets ≡ total d'.sets + 1) (waiting : waits q'' ≡ waits q' ++ (record { variable = i; value = x; time = t } ∷ [])) (len : q''.len ≡ q'.len + 1) (kept : Kept q' q'') where
  pub among_free : i < 32 → x < 64 → within c i x ≡ true → has_bit among x ≡ true → shown d' i x ≡ false → (entry d'.why i x).constraint ≡ p → d''.clock ≡ d'.clock → Among c d d' q q' i p among x → Among c d d'' q q'' i p among (x + 1)
  among_free il xl inside has gone names clock a =
      record {
        spare = spare_free c d' d'' q' q'' i x t put why more waiting len kept il xl inside a.spare;
        grew = grew_trans d d' d'' q q' q'' a.grew (grew_free c d' d'' q' q'' i x t put why more waiting len kept clock);
        frees = λ r d₀ first rest rel.
            frees_free c d' d'' q' q'' i x t put why more waiting len kept r d₀ first inside gone (λ o e. rest x o (e ∙ names) has) (a.frees r d₀ first rest rel);
        below = below_more _ x
            (λ k h b e. back_grows d' d'' i x put i k (a.below k h b (ap (λ (w : List (List Justification)). (entry w i k).constraint) (sym why) ∙ e)))
            (λ _ _. put.back);
      }
