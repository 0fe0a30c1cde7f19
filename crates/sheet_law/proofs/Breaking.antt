-- A record that stops the walk breaks a rule, and keeps those before it.
use Rattle.std.proofs.Common.{◌≡◌, ℕ, ◌+◌, ◌*◌, ◌<◌, Bool, true, false, not, ◌&&◌, eqb, ltb, List, [], ◌∷◌, length, get_or, drop, Some, Option, ℤ, pos, negsuc, sym, refl, ap, ◌∙◌, subst, inl, inr, ⊎_elim, arith}
use Rattle.std.proofs.lemmas.Bool.{ltb-true, ltb-false, cond-true, cond-false, eqb-true, and_parts, and_from, not-true, lt-ltb, eq-eqb, not_from_false}
use Rattle.sheet_format.specs.declared.faults.Cause.{Cause}
use Rattle.sheet_format.specs.declared.faults.Cause.TheVariants.{OutOfTurn, TooManyConstraints, WrongLength, BadHeading, BadSize, BadHouse, BadEnds, BadSum, BadRow}
use Rattle.sheet_format.specs.declared.kinds.Kind.{Kind}
use Rattle.sheet_format.specs.declared.kinds.Kind.TheVariants.{Heading, Variable, Sum, Table, Add, Retract, End}
use Rattle.sheet_format.specs.Numbers.{number2}
use Rattle.sheet_format.specs.Kinds.{kind_number}
use Rattle.sheet_format.specs.Faults.{cause_number}
use Rattle.sheet_format.specs.Value.{size_at, ValidEnds}
use Rattle.sheet_format.specs.Beginnings.{Begun, Keeps, begun_tally}
use Rattle.sheet_format.specs.Rules.{Rule, rule, HeadingSays, SizeGiven, HouseFree, FormulaFits, constraint_rules, rules, FirstBroken, AllKept}
use Rattle.sheet_format.specs.Reading.{Shown, shows_heading, shows_variable, shows_sum, shows_table, shows_short_table, shows_add, shows_retract, shows_end, shown}
use Rattle.sheet_format.specs.Verdict.{Tally, Step, goes, ends, stops, unless, between, between_z, used, house_good, ends_good, sum_good, step, heading_step, variable_step, constraint_step, sum_step, table_step, move_step, end_step}
use Rattle.sheet_law.proofs.Shows.{two_first, KindIs, kind_is}
use Rattle.sheet_law.proofs.Rows.{rows_fit, fit_rows}
use Rattle.sheet_law.proofs.Items.{between_is, is_between, ends_valid, valid_ends, le_z_is, is_le_z}
use Rattle.sheet_law.proofs.Houses.{used_found, used_none}
use Rattle.sheet_law.proofs.Tallies.{complete_is, is_complete, due_is, is_due}

-- a test that says what a rule says
record Tests (test : Bool) (P : Type 0) : Type 0 where
  says : test ≡ true → P
  holds : P → test ≡ true

equals : (m n : ℕ) → Tests (eqb m n) (m ≡ n)
equals m n = record { says = eqb-true m n; holds = eq-eqb m n }

below : (m n : ℕ) → Tests (ltb m n) (m < n)
below m n = record { says = ltb-true m n; holds = lt-ltb m n }

heading_tested : (body : List ℕ) → Tests (eqb (number2 body 0) 1 && between 1 32 (number2 body 2)) (HeadingSays body)
heading_tested body =
    record {
      says = λ e.
          let p = and_parts (eqb (number2 body 0) 1) (between 1 32 (number2 body 2)) e in
          let q = between_is 1 32 (number2 body 2) p.1 in
          record { start = eqb-true _ _ p.0; some = q.0; few = q.1 };
      holds = λ s. and_from _ _ (eq-eqb (number2 body 0) 1 s.start) (is_between 1 32 (number2 body 2) s.some s.few);
    }

size_tested : (size : ℕ) → Tests (between 1 64 size) (SizeGiven size)
size_tested size =
    record {
      says = λ e. let p = between_is 1 64 size e in record { some = p.0; few = p.1 };
      holds = λ s. is_between 1 64 size s.some s.few;
    }

house_tested : (b : Begun) (house : ℕ) → Tests (house_good (begun_tally b) house) (HouseFree b house)
house_tested b house =
    record {
      says = λ e.
          let p = and_parts (ltb house b.n) (not (used b.variables house)) e in
          record { low = ltb-true _ _ p.0; free = used_none b.variables house (not-true _ p.1) };
      holds = λ f. and_from _ _ (lt-ltb house b.n f.low) (not_from_false (used b.variables house) (new f (used b.variables house) refl));
    }
  where
    new : HouseFree b house → (u : Bool) → used b.variables house ≡ u → used b.variables house ≡ false
    new f true e = let p = used_found b.variables house e in absurd (f.free p.0 p.1 p.2)
    new f false e = e

formula_tested : (m k lo hi : ℤ) → Tests (sum_good m k lo hi) (FormulaFits m k lo hi)
formula_tested m k lo hi =
    record {
      says = λ e.
          let p = and_parts (between_z (negsuc 999) (pos 1000) m) _ e in
          let q = and_parts (between_z (negsuc 999) (pos 1000) k) _ p.1 in
          let a = and_parts _ _ p.0 in
          let c = and_parts _ _ q.0 in
          record { m_low = le_z_is _ m a.0; m_high = le_z_is m _ a.1; k_low = le_z_is _ k c.0; k_high = le_z_is k _ c.1; ordered = le_z_is lo hi q.1 };
      holds = λ f.
          and_from _ _ (and_from _ _ (is_le_z (negsuc 999) m f.m_low) (is_le_z m (pos 1000) f.m_high))
          (and_from _ _ (and_from _ _ (is_le_z (negsuc 999) k f.k_low) (is_le_z k (pos 1000) f.k_high)) (is_le_z lo hi f.ordered));
    }

-- a step that stops at a test, or after it
stops_same : (c d : Cause) → stops c ≡ stops d → d ≡ c
stops_same c d e = cc

pub goes_on : (h : Tally) (cause : Cause) → goes h ≡ stops cause → ⊥
goes_on h cause e = let z : ◌≡◌ {A = ℕ} 0 1 = cc in omega arith

pub ends_on : (cause : Cause) → ends ≡ stops cause → ⊥
ends_on cause e = let z : ◌≡◌ {A = ℕ} 0 1 = cc in omega arith

-- A step stops for a cause just where that is the cause of the first broken rule. Where it does not stop, no rule is broken.
pub record Breaks (next : Step) (rs : List Rule) : Type 0 where
  pub first : (cause : Cause) → next ≡ stops cause → FirstBroken (cause_number cause) rs
  pub there : (number : ℕ) → FirstBroken number rs → (cause : Cause) × (next ≡ stops cause) × (number ≡ cause_number cause)
  pub all : ((cause : Cause) → next ≡ stops cause → ⊥) → AllKept rs

-- a rule that is kept
kept : (c : Cause) (next : Step) (rs : List Rule) {P : Type 0} → P → Breaks next rs → Breaks next (rule c P ∷ rs)
kept c next rs p more =
    record {
      first = λ cause e. inr (p, more.first cause e);
      there = λ number f. ⊎_elim (λ x. absurd (x.1 p)) (λ y. more.there number y.1) f;
      all = λ on. (p, more.all on);
    }

tested : (test : Bool) (c : Cause) (next : Step) (P : Type 0) (rs : List Rule) → Tests test P → Breaks next rs → Breaks (unless test c next) (rule c P ∷ rs)
tested true c next P rs t more = kept c next rs (t.says refl) more
tested false c next P rs t more =
    record {
      first = λ cause e. inl (ap cause_number (stops_same c cause e), λ p. not_so (t.holds p));
      there = λ number f. ⊎_elim (λ x. (c, refl, x.0)) (λ y. absurd (not_so (t.holds y.0))) f;
      all = λ on. absurd (on c refl);
    }
  where
    not_so : false ≡ true → ⊥
    not_so e = let z : ◌≡◌ {A = ℕ} 0 1 = cc in omega arith

no_more : (h : Tally) → Breaks (goes h) []
no_more h = record { first = λ cause e. goes_on h cause e; there = λ number f. absurd f; all = λ on. tt }

module _ (b : Begun) (k : Keeps b) where
  constraint_breaks : (next : Step) (rs : List Rule) → Breaks next rs → Breaks (constraint_step (begun_tally b) next) (constraint_rules b rs)
  constraint_breaks next rs more =
      tested _ OutOfTurn _ _ _ (record { says = due_is b k; holds = is_due b }) (
      tested _ TooManyConstraints next _ rs (below (length b.constraints) 96) more)

  heading_breaks : (body : List ℕ) (after : ℕ) → Breaks (heading_step (begun_tally b) body after) (rules b Heading body)
  heading_breaks body after =
      tested _ OutOfTurn _ _ _ (equals b.n 0) (
      tested _ WrongLength _ _ _ (equals (length body) 4) (
      tested _ BadHeading _ _ _ (heading_tested body) (no_more _)))

  variable_breaks : (body : List ℕ) (after : ℕ) → Breaks (variable_step (begun_tally b) body after) (rules b Variable body)
  variable_breaks body after =
      tested _ OutOfTurn _ _ _ (below (length b.variables) b.n) (
      tested _ WrongLength _ _ _ (equals (length body) 4) (
      tested _ BadSize _ _ _ (size_tested (number2 body 0)) (
      tested _ BadHouse _ _ _ (house_tested b (number2 body 2)) (no_more _))))

  ends_tested : (x y : ℕ) → Tests (ends_good b.n x y) (ValidEnds b.n x y)
  ends_tested x y = record { says = ends_valid b.n x y; holds = valid_ends b.n x y }

  sum_breaks : (body : List ℕ) (after : ℕ) → Breaks (constraint_step (begun_tally b) (sum_step (begun_tally b) body after)) (rules b Sum body)
  sum_breaks body after =
      constraint_breaks _ _
      (tested _ WrongLength _ _ _ (equals (length body) 14) (
      tested _ BadEnds _ _ _ (ends_tested (get_or body 0 0) (get_or body 1 0)) (
      tested _ BadSum _ _ _ (formula_tested _ _ _ _) (no_more _))))

  table_breaks : (x y : ℕ) (rows : List ℕ) (after : ℕ) → Breaks (constraint_step (begun_tally b) (table_step (begun_tally b) x y rows after)) (rules b Table (x ∷ (y ∷ rows)))
  table_breaks x y rows after =
      constraint_breaks _ _
      (kept _ _ _ (omega arith)
      (tested _ BadEnds _ _ _ (ends_tested x y) (
      tested _ WrongLength _ _ _ (record { says = λ l. let m = eqb-true _ _ l in omega arith; holds = λ l. eq-eqb (length rows) (8 * size_at b.variables x) (omega arith) }) (
      tested _ BadRow _ _ _ (record { says = rows_fit (size_at b.variables x) (size_at b.variables y) rows; holds = fit_rows (size_at b.variables x) (size_at b.variables y) rows }) (no_more _)))))

  short_breaks : (body : List ℕ) → length body < 2 → Breaks (constraint_step (begun_tally b) (stops WrongLength)) (rules b Table body)
  short_breaks body l =
      constraint_breaks _ _
      (record {
        first = λ cause e. inl (ap cause_number (stops_same WrongLength cause e), λ m. omega arith);
        there = λ number f. ⊎_elim (λ x. (WrongLength, refl, x.0)) (λ y. absurd (let m = y.0 in omega arith)) f;
        all = λ on. absurd (on WrongLength refl);
      })

  move_breaks : (body : List ℕ) → Breaks (move_step (begun_tally b) body) (rules b Add body)
  move_breaks body =
      tested _ OutOfTurn _ _ _ (record { says = complete_is b k; holds = is_complete b }) (
      tested _ WrongLength _ _ _ (equals (length body) 2) (no_more _))

  end_breaks : (body : List ℕ) → Breaks (end_step (begun_tally b) body) (rules b End body)
  end_breaks body =
      tested _ OutOfTurn _ _ _ (record { says = complete_is b k; holds = is_complete b }) (
      tested _ WrongLength _ _ _ (equals (length body) 0) (record { first = λ cause e. absurd (ends_on cause e); there = λ number f. absurd f; all = λ on. tt }))

  -- what a record of a kind shows, and the step of that
  pub record OfKind (kind : Kind) (body : List ℕ) (place after : ℕ) : Type 0 where
    pub shows : Shown
    pub shown_so : shown (kind_number kind) body place ≡ Some shows
    pub breaks : Breaks (step (begun_tally b) shows after) (rules b kind body)

  table_kind : (body : List ℕ) (place after : ℕ) (t : Bool) → ltb (length body) 2 ≡ t → OfKind Table body place after
  table_kind body place after true t =
      record { shows = shows_short_table body; shown_so = ap Some (cond-true _ _ _ t); breaks = short_breaks body (ltb-true (length body) 2 t) }
  table_kind body place after false t =
      record {
        shows = shows_table (get_or body 0 0) (get_or body 1 0) (drop 2 body) (place + 6);
        shown_so = ap Some (cond-false _ _ _ t);
        breaks =
            subst (λ ys. Breaks (constraint_step (begun_tally b) (table_step (begun_tally b) (get_or body 0 0) (get_or body 1 0) (drop 2 body) after)) (rules b Table ys))
            (sym (two_first body (ltb-false (length body) 2 t))) (table_breaks (get_or body 0 0) (get_or body 1 0) (drop 2 body) after);
      }

  pub of_kind : (kind : Kind) (body : List ℕ) (place after : ℕ) → OfKind kind body place after
  of_kind Heading body place after = record { shows = shows_heading body; shown_so = refl; breaks = heading_breaks body after }
  of_kind Variable body place after = record { shows = shows_variable body; shown_so = refl; breaks = variable_breaks body after }
  of_kind Sum body place after = record { shows = shows_sum body; shown_so = refl; breaks = sum_breaks body after }
  of_kind Table body place after = table_kind body place after (ltb (length body) 2) refl
  of_kind Add body place after = record { shows = shows_add body; shown_so = refl; breaks = move_breaks body }
  of_kind Retract body place after = record { shows = shows_retract body; shown_so = refl; breaks = move_breaks body }
  of_kind End body place after = record { shows = shows_end body; shown_so = refl; breaks = end_breaks body }

kind_shown : (number : ℕ) (body : List ℕ) (s : Shown) → KindIs number body s → (kind : Kind) × (kind_number kind ≡ number)
kind_shown number body (shows_heading xs) q = (Heading, sym q.0)
kind_shown number body (shows_variable xs) q = (Variable, sym q.0)
kind_shown number body (shows_sum xs) q = (Sum, sym q.0)
kind_shown number body (shows_table x y rows at) q = (Table, sym q.0)
kind_shown number body (shows_short_table xs) q = (Table, sym q.0)
kind_shown number body (shows_add xs) q = (Add, sym q.0)
kind_shown number body (shows_retract xs) q = (Retract, sym q.0)
kind_shown number body (shows_end xs) q = (End, sym q.0)

pub same_shown : (s t : Shown) → ◌≡◌ {A = Option Shown} (Some s) (Some t) → t ≡ s
same_shown s t e = cc

-- the kind of a record that stops the walk, and its first broken rule
pub breaks : (b : Begun) → Keeps b → (number : ℕ) (body : List ℕ) (place after : ℕ) (s : Shown) (cause : Cause) → shown number body place ≡ Some s → step (begun_tally b) s after ≡ stops cause
    → (kind : Kind) × (kind_number kind ≡ number) × FirstBroken (cause_number cause) (rules b kind body)
breaks b k number body place after s cause shows e =
    let kind = kind_shown number body s (kind_is number body place s shows) in
    let o : OfKind b k kind.0 body place after = of_kind b k kind.0 body place after in
    let same : o.shows ≡ s = same_shown s o.shows (sym (subst (λ n. shown n body place ≡ Some s) (sym kind.1) shows) ∙ o.shown_so) in
    (kind.0, kind.1, o.breaks.first cause (ap (λ t. step (begun_tally b) t after) same ∙ e))
