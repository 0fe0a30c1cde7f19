-- What a value that came back stood beside comes back too; and all that rests on a constraint, in the end.
use Rattle.std.proofs.Common.{◌≡◌, ℕ, ◌+◌, ◌<◌, ◌≤◌, true, false, ◌&&◌, ltb, ◌⊎◌, List, [], ◌∷◌, get_or, sym, refl, ap, ◌∙◌, subst, inl, ⊎_elim, arith}
use Rattle.std.proofs.lemmas.Bool.{ltb-true, lt-ltb, cases_lt, both_ways, eq-eqb, and_from}
use Rattle.arcs.specs.Family.{Inside}
use Rattle.bits.specs.Bits.{has_bit}
use Rattle.arcs.specs.Standing.{Out, Rests, names, through}
use Rattle.engine.specs.declared.fifo.Queue.{Queue}
use Rattle.engine.specs.Waiting.{waits}
use Rattle.domains.specs.declared.Arc.{Arc}
use Rattle.domains.specs.declared.Constraints.{Constraints}
use Rattle.domains.specs.declared.Domains.{Domains}
use Rattle.domains.specs.declared.Justification.{Justification}
use Rattle.domains.specs.declared.Returning.{Returning}
use Rattle.domains.specs.Model.{within, left_of, right_of, arcs_of, shown, standing, row, entry, reason_is}
use Rattle.domains.specs.Sound.{Shape, Facing, Sound}
use Rattle.domains.specs.Releasing.{Releasing}
use Rattle.domains.proofs.Facing.{on_low, on_present, on_at_far, ends_of}
use Rattle.domains.proofs.Release.{releasing_drop}
use Rattle.engine.specs.Returns.{Spare, Grew, AllRest, FreesAmong}
use Rattle.engine.proofs.Frees.{grew_trans}

-- of the values whose reason lets the value y of j stand beside them, those with a reason below n are back
abbrev pub FollowedBelow : Constraints → Domains → Domains → ℕ → ℕ → ℕ → Type 0
FollowedBelow c d d' j y n = (i x : ℕ) → Out (within c) (standing d) i x → (standing d).reason i x < n → (arcs_of c).far i ((standing d).reason i x) ≡ j → (arcs_of c).fits i ((standing d).reason i x) x y ≡ true → shown d' i x ≡ true

-- on the way through the constraints at the variable of v
pub record Beside (c : Constraints) (d d' : Domains) (q q' : Queue Returning) (v : Returning) (n : ℕ) : Type 0 where
  pub spare : Spare c d' q'
  pub grew : Grew d d' q q'
  pub frees : (p : ℕ) (d₀ : Domains) → Releasing c p d₀ d (v ∷ waits q) → Releasing c p d₀ d' (v ∷ waits q') × FollowedBelow c d₀ d' v.variable v.value n

-- the constraint n does not tie the variable
pub beside_skip : (c : Constraints) (d d' : Domains) (q q' : Queue Returning) (v : Returning) (n : ℕ) → Shape c → (arcs_of c).on v.variable n ≡ false → Beside c d d' q q' v n → Beside c d d' q q' v (n + 1)
beside_skip c d d' q q' v n shape off b =
    record {
      spare = b.spare;
      grew = b.grew;
      frees = λ p d₀ h.
          let k = b.frees p d₀ h in (
            k.0,
            λ i x o l far fits.
                ⊎_elim (λ lt. k.1 i x o lt far fits)
                (λ ge. let e : (standing d₀).reason i x ≡ n = omega arith in
                absurd (both_ways ((arcs_of c).on v.variable n) off (tied d₀ i x (h.justified i x o).on far e)))
                (cases_lt ((standing d₀).reason i x) n),
          );
    }
  where
    tied : (d₀ : Domains) (i x : ℕ) → (arcs_of c).on i ((standing d₀).reason i x) ≡ true → (arcs_of c).far i ((standing d₀).reason i x) ≡ v.variable → (standing d₀).reason i x ≡ n → (arcs_of c).on v.variable n ≡ true
    tied d₀ i x on far e =
        let P : ℕ → Type 0 = λ j. (arcs_of c).on j ((standing d₀).reason i x) ≡ true in
        let Q : ℕ → Type 0 = λ r. (arcs_of c).on v.variable r ≡ true in
        subst Q e (subst P far (on_at_far c i ((standing d₀).reason i x) shape on))

-- the constraint n ties the variable, and what it names among the supports of v came back
module _ (c : Constraints) (d d' d'' : Domains) (q q' q'' : Queue Returning) (v : Returning) (n : ℕ) (a : Arc) (shape : Shape c) (facing : Facing c a) (near : a.near ≡ v.variable) (same : a.constraint ≡ n) (low : v.value < 64) where
  -- the far variable's values beside v, as the row says
  fits_row : (x : ℕ) → x < 64 → (arcs_of c).fits a.far n x v.value ≡ has_bit (row c a.rows v.value) x
  fits_row x h =
      let P : ℕ → Type 0 = λ r. (arcs_of c).fits a.far r x v.value ≡ has_bit (row c a.rows v.value) x in
      subst P same (facing.turned v.value x low h)

  far_back : (arcs_of c).far a.far n ≡ v.variable
  far_back = let P : ℕ → Type 0 = λ r. (arcs_of c).far a.far r ≡ v.variable in subst P same (facing.far_far ∙ near)

  -- a variable that the constraint ties with its far end at v is the arc's far end
  is_far : (i : ℕ) → (arcs_of c).on i n ≡ true → (arcs_of c).far i n ≡ v.variable → i ≡ a.far
  is_far i on far =
      ⊎_elim
      (λ e. absurd (facing.apart (near ∙ sym far ∙ ap (λ j. (arcs_of c).far j n) e ∙ ap (λ r. (arcs_of c).far a.near r) (sym same) ∙ facing.far)))
      (λ e. e)
      (facing.ends i (let P : ℕ → Type 0 = λ r. (arcs_of c).on i r ≡ true in subst P (sym same) on))

  inside_low : (i x : ℕ) → within c i x ≡ true → x < 64
  inside_low i x h = omega (arith, ltb-true x (get_or c.sizes i 0) h, shape.small i)

  all_rest : (p : ℕ) (d₀ d₁ : Domains) (w : List Returning) → Releasing c p d₀ d₁ (v ∷ w) → AllRest c p d₀ a.far n (row c a.rows v.value)
  all_rest p d₀ d₁ w r x o e has =
      let s : Rests (arcs_of c) (within c) (standing d₀) (reason_is p) v.variable v.value =
      r.only v.variable v.value (r.waiting v.variable v.value (inl (refl, refl)))
      in
      let P : ℕ → Type 0 = λ k. (arcs_of c).fits a.far k x v.value ≡ true in
      let Q : ℕ → Type 0 = λ k. Rests (arcs_of c) (within c) (standing d₀) (reason_is p) k v.value in
      let F : ℕ → Type 0 = λ k. (arcs_of c).far a.far k ≡ v.variable in
      through o v.value
      (subst P (sym e) (fits_row x (inside_low a.far x o.inside) ∙ has))
      (subst Q (sym (subst F (sym e) far_back)) s)

  pub beside_more : (among : ℕ) → among ≡ row c a.rows v.value → Spare c d'' q'' → Grew d' d'' q' q'' → FreesAmong c d' d'' (waits q') (waits q'') a.far n among → ((x : ℕ) → within c a.far x ≡ true → has_bit among x ≡ true → (entry d''.why a.far x).constraint ≡ n → shown d'' a.far x ≡ true) → Beside c d d' q q' v n → Beside c d d'' q q'' v (n + 1)
  beside_more among is_row spare grew frees freed b =
      record {
        spare = spare;
        grew = grew_trans d d' d'' q q' q'' b.grew grew;
        frees = λ p d₀ h. (next p d₀ h, follow p d₀ h);
      }
    where
      next : (p : ℕ) (d₀ : Domains) → Releasing c p d₀ d (v ∷ waits q) → Releasing c p d₀ d'' (v ∷ waits q'')
      next p d₀ h =
          let A : ℕ → Type 0 = λ s. AllRest c p d₀ a.far n s in
          frees p d₀ (v ∷ []) (subst A (sym is_row) (all_rest p d₀ d' (waits q') (b.frees p d₀ h).0)) (b.frees p d₀ h).0

      follow : (p : ℕ) (d₀ : Domains) → Releasing c p d₀ d (v ∷ waits q) → (i x : ℕ) → Out (within c) (standing d₀) i x → (standing d₀).reason i x < n + 1 → (arcs_of c).far i ((standing d₀).reason i x) ≡ v.variable → (arcs_of c).fits i ((standing d₀).reason i x) x v.value ≡ true → shown d'' i x ≡ true
      follow p d₀ h i x o l far fits =
          ⊎_elim (λ lt. grew.shown i x ((b.frees p d₀ h).1 i x o lt far fits))
          (λ ge. let e : (standing d₀).reason i x ≡ n = omega arith in here e)
          (cases_lt ((standing d₀).reason i x) n)
        where
          here : (standing d₀).reason i x ≡ n → shown d'' i x ≡ true
          here e =
              let O : ℕ → Type 0 = λ r. (arcs_of c).on i r ≡ true in
              let F : ℕ → Type 0 = λ r. (arcs_of c).far i r ≡ v.variable in
              let X : ℕ → Type 0 = λ r. (arcs_of c).fits i r x v.value ≡ true in
              let on : (arcs_of c).on i n ≡ true = subst O e (h.justified i x o).on in
              let at : i ≡ a.far = is_far i on (subst F e far) in
              let Y : ℕ → Type 0 = λ j. (arcs_of c).fits j n x v.value ≡ true in
              let I : ℕ → Type 0 = λ j. within c j x ≡ true in
              let inside : within c a.far x ≡ true = subst I at o.inside in
              let has : has_bit (row c a.rows v.value) x ≡ true = sym (fits_row x (inside_low a.far x inside)) ∙ subst Y at (subst X e fits) in
              let R : ℕ → Type 0 = λ j. (entry d''.why j x).constraint ≡ n in
              let why : (entry d''.why i x).constraint ≡ n = ap (λ (w : List (List Justification)). (entry w i x).constraint) (next p d₀ h).why ∙ e in
              let S : ℕ → Type 0 = λ j. shown d'' j x ≡ true in
              subst S (sym at) (freed x inside (ap (λ s. has_bit s x) is_row ∙ has) (subst R at why))

pub beside_all : (c : Constraints) (d d' : Domains) (q q' : Queue Returning) (v : Returning) (n : ℕ) → 128 ≤ n → Beside c d d' q q' v n → (p : ℕ) (d₀ : Domains) → Releasing c p d₀ d (v ∷ waits q) → Releasing c p d₀ d' (waits q')
beside_all c d d' q q' v n l b p d₀ h =
    releasing_drop c p d₀ d' v (waits q')
    (λ i x o far fits. (b.frees p d₀ h).1 i x o (omega (arith, on_low c i ((standing d₀).reason i x) (h.justified i x o).on)) far fits)
    (b.frees p d₀ h).0

-- Every value whose justification names p is among those of its two ends.
pub named_ends : (c : Constraints) (p : ℕ) (d : Domains) → Shape c → Sound c d → ((i x : ℕ) → Out (within c) (standing d) i x → (standing d).reason i x ≡ p → (i ≡ left_of c p) ⊎ (i ≡ right_of c p))
named_ends c p d shape sound i x o e =
    let O : ℕ → Type 0 = λ r. (arcs_of c).on i r ≡ true in
    let on : (arcs_of c).on i p ≡ true = subst O e (sound.justified i x o).on in
    ends_of c p shape (on_low c i p on) (on_present c i p on) i on

-- what names p at a variable was put back there, and is still
pub named_at : (c : Constraints) (p all i x : ℕ) (d d' d'' : Domains) → d'.why ≡ d.why → Inside (shown d'') (shown d') → ((y : ℕ) → has_bit all y ≡ (ltb y 64 && ltb y 64)) → ((y : ℕ) → within c i y ≡ true → has_bit all y ≡ true → (entry d'.why i y).constraint ≡ p → shown d' i y ≡ true) → Shape c → Out (within c) (standing d) i x → (standing d).reason i x ≡ p → shown d'' i x ≡ true
named_at c p all i x d d' d'' why more mask freed shape o e =
    let low : x < 64 = omega (arith, ltb-true x (get_or c.sizes i 0) o.inside, shape.small i) in
    more i x
    (freed x o.inside (mask x ∙ and_from (ltb x 64) (ltb x 64) (lt-ltb x 64 low) (lt-ltb x 64 low))
    (ap (λ (w : List (List Justification)). (entry w i x).constraint) why ∙ e))

-- both ends at once
pub named_both : (c : Constraints) (p all : ℕ) (d d₁ d₂ d₃ : Domains) → Shape c → Sound c d → d₁.why ≡ d.why → d₂.why ≡ d₁.why → Inside (shown d₂) (shown d₁) → Inside (shown d₃) (shown d₂) → ((y : ℕ) → has_bit all y ≡ (ltb y 64 && ltb y 64)) → ((y : ℕ) → within c (left_of c p) y ≡ true → has_bit all y ≡ true → (entry d₁.why (left_of c p) y).constraint ≡ p → shown d₁ (left_of c p) y ≡ true) → ((y : ℕ) → within c (right_of c p) y ≡ true → has_bit all y ≡ true → (entry d₂.why (right_of c p) y).constraint ≡ p → shown d₂ (right_of c p) y ≡ true) → (i x : ℕ) → Out (within c) (standing d) i x → (standing d).reason i x ≡ p → shown d₃ i x ≡ true
named_both c p all d d₁ d₂ d₃ shape sound w₁ w₂ m₂ m₃ mask left right i x o e =
    let O : ℕ → Type 0 = λ j. Out (within c) (standing d) j x in
    let E : ℕ → Type 0 = λ j. (standing d).reason j x ≡ p in
    let S : ℕ → Type 0 = λ j. shown d₃ j x ≡ true in
    ⊎_elim
    (λ l. subst S (sym l)
    (named_at c p all (left_of c p) x d d₁ d₃ w₁ (λ j y h. m₃ j y (m₂ j y h)) mask left shape (subst O l o) (subst E l e)))
    (λ r. subst S (sym r) (named_at c p all (right_of c p) x d d₂ d₃ (w₂ ∙ w₁) m₃ mask right shape (subst O r o) (subst E r e)))
    (named_ends c p d shape sound i x o e)

-- what names p rests on it
pub names_rest : (c : Constraints) (p i among : ℕ) (d : Domains) → AllRest c p d i p among
names_rest c p i among d x o e has = names o (eq-eqb ((standing d).reason i x) p e)
