-- Each call is a step of the law.
use Rattle.std.proofs.Common.{◌≡◌, ℕ, ◌+◌, ◌<◌, Bool, true, false, cond, not, ◌&&◌, eqb, nat_le, List, length, get_or, take, Some, None, Option, sym, refl, ap, ◌∙◌, subst, arith}
use Rattle.std.proofs.lemmas.List.{length-take-le}
use Rattle.arcs.specs.Family.{Largest, within_sizes}
use Rattle.arcs.specs.WipedOut.{WipedOut}
use Rattle.catalog.specs.Meaning.{Meaning, Lawful}
use Rattle.catalog.specs.Constraints.{arcs_of}
use Rattle.arcs.specs.Standing.{Out, Justified, Timed, Rests}
use Rattle.arcs.specs.Changes.{Dated}
use Rattle.arcs.proofs.Keeps.{same_refl}
use Rattle.catalog.specs.declared.refusal.Refusal.{Refusal}
use Rattle.domains.specs.declared.Constraints.{Constraints}
use Rattle.domains.specs.declared.Domains.{Domains}
use Rattle.domains.specs.Model.{within, is_present, shown, standing, reason_is, arcs_of as arcs_in}
use Rattle.domains.specs.Stands.{with_present}
use Rattle.engine.specs.Calls.{Right as RightIn, Added, Retracted}
use Rattle.network.specs.declared.law.Answer.{Answer}
use Rattle.network.specs.declared.law.Answer.TheVariants.{Changed, Refused}
use Rattle.network.specs.Moment.{Book, Moment, Agrees, Right, bound, arcs_at}
use Rattle.network.specs.Calls.{Lengths, Call, adds, retracts}
use Rattle.network.specs.Refusals.{refusal, next, spent}
use Rattle.network.specs.Step.{Step, Turned, Answered}
use Rattle.network.specs.Model.{moment, Links}
use Rattle.network.proofs.Alike.{alike_largest, alike_justified, alike_rests}
use Rattle.network.proofs.Counts.{count_is_less, rose_clock}
use Rattle.network.specs.Counting.{values_in}
use Rattle.network.proofs.Link.{alike, same_bound}
use Rattle.network.proofs.Altered.{present_set}

-- ---- calls that leave everything as it was

pub step_refused : (m : Meaning) (s : Moment) (k : Call) (e : Refusal) → refusal m s.book (spent s.clock) k ≡ Some e → Right m s → Step m s k (Refused e) s
step_refused m s k e why right =
    record {
      turned = subst (λ o. Turned o m s k (Refused e) s) (sym why) (record { answer = refl; number = refl; unchanged = refl });
      right = right;
    }

pub step_asked : (m : Meaning) (s : Moment) (k : Call) (a : Answer) → refusal m s.book (spent s.clock) k ≡ None → Agrees s.book (next s.book k) → Answered s k a s → Right m s → Step m s k a s
step_asked m s k a none book answer right =
    record {
      turned = subst (λ o. Turned o m s k a s) (sym none) (record { book = book; kept = λ i x out _. same_refl s.standing i x; dated = λ i x out _. (out, same_refl s.standing i x); answer = answer });
      right = right;
    }

pub agrees_refl : (b : Book) → Agrees b b
agrees_refl b = record { sizes = refl; present = λ p. refl }

-- ---- the wiped-out variable of the first n sets

-- ---- what stands in the engine stands in the network

module _ (m : Meaning) (lawful : Lawful m) (c : Constraints) (d : Domains) (n : ℕ) (known : List Bool) (links : Links m c n known) where
  here : within_sizes (take n c.sizes) ≡ within c
  here = same_bound m lawful c n known links

  pub right_here : RightIn c d → Right m (moment c d n)
  right_here r =
      record {
        largest =
            subst (λ b. Largest (arcs_of m (is_present c)) b (shown d)) (sym here)
            (alike_largest (within c) (arcs_in c) (arcs_of m (is_present c)) (alike m lawful c n known links) (shown d) r.largest);
        justified =
            subst (λ b. Justified (arcs_of m (is_present c)) b (standing d)) (sym here)
            (alike_justified (within c) (arcs_in c) (arcs_of m (is_present c)) (alike m lawful c n known links) (standing d) r.justified);
        timed = subst (λ b. Timed b (standing d) d.clock) (sym here) r.timed;
      }

  pub out_here : (i x : ℕ) → Out (bound (moment c d n)) (standing d) i x → Out (within c) (standing d) i x
  out_here i x out = subst (λ b. Out b (standing d) i x) here out

  rests_here : Justified (arcs_in c) (within c) (standing d) → (p i x : ℕ) → Rests (arcs_in c) (within c) (standing d) (reason_is p) i x
      → Rests (arcs_at m (moment c d n)) (bound (moment c d n)) (standing d) (reason_is p) i x
  rests_here just p i x r =
      subst (λ b. Rests (arcs_of m (is_present c)) b (standing d) (reason_is p) i x) (sym here)
      (alike_rests (within c) (arcs_in c) (arcs_of m (is_present c)) (alike m lawful c n known links) (standing d) (reason_is p) just i x r)

  wiped_here : length c.sizes ≡ 32 → (o : Option ℕ) → WipedOut (shown d) n o → WipedOut (shown d) (length (take n c.sizes)) o
  wiped_here long o w = subst (λ k. WipedOut (shown d) k o) (sym (length-take-le n c.sizes (omega (arith, links.few)))) w

-- ---- adding and retracting

module _ (m : Meaning) (lawful : Lawful m) (c c₁ c' : Constraints) (d d' : Domains) (n : ℕ) (known known' : List Bool) (p k : ℕ) (lengths : Lengths) (o : Option ℕ)
    (links : Links m c n known) (links' : Links m c' n known') (same_sizes : c₁.sizes ≡ c.sizes) (same_present : c₁.present ≡ c.present) (low : p < length c₁.present)
    (long : length c'.sizes ≡ 32) (wiped : WipedOut (shown d') n o) where
  book_set : (b : Bool) → c' ≡ with_present c₁ p b → Agrees (moment c' d' n).book (record { sizes = take n c.sizes; present = λ q. cond (eqb q p) b (is_present c q) })
  book_set b e =
      record {
        sizes = ap (λ v. take n v.sizes) e ∙ ap (take n) same_sizes;
        present = λ q. ap (λ v. is_present v q) e ∙ present_set c₁ p b low q ∙ ap (λ v. cond (eqb q p) b (get_or v q false)) same_present;
      }

  same_within : (b : Bool) → c' ≡ with_present c₁ p b → within c' ≡ within c
  same_within b e = ap within e ∙ ap within_sizes same_sizes

  pub step_add : refusal m (moment c d n).book (spent d.clock) (adds p lengths) ≡ None → Added c₁ c' d d' p k
      → Step m (moment c d n) (adds p lengths) (Changed (record { values = k; wiped = o })) (moment c' d' n)
  step_add none added =
      record {
        turned =
            subst (λ v. Turned v m (moment c d n) (adds p lengths) (Changed (record { values = k; wiped = o })) (moment c' d' n)) (sym none)
            (record {
              book = book_set true added.constraints;
              kept = λ i x out _. added.went.kept i x (subst (λ b. Out b (standing d) i x) (sym (same_within true added.constraints)) (out_here m lawful c d n known links i x out));
              dated = subst (λ b. Dated b d.clock (standing d) (standing d')) (sym (here m lawful c' d' n known' links')) added.went.dated;
              answer = (
                record { values = k; wiped = o },
                refl,
                record {
                  count = count_is_less d.sets d'.sets k d.sets_long d'.sets_long d.wide d'.wide added.went.fewer (omega (arith, added.went.spent, added.count));
                  wiped = wiped_here m lawful c' d' n known' links' long o wiped;
                  clock = added.count;
                },
              );
            });
        right = right_here m lawful c' d' n known' links' added.right;
      }

  pub step_retract : refusal m (moment c d n).book (spent d.clock) (retracts p lengths) ≡ None → c₁ ≡ c → Justified (arcs_in c) (within c) (standing d) → Retracted c c' d d' p k
      → Step m (moment c d n) (retracts p lengths) (Changed (record { values = k; wiped = o })) (moment c' d' n)
  step_retract none same just gone =
      record {
        turned =
            subst (λ v. Turned v m (moment c d n) (retracts p lengths) (Changed (record { values = k; wiped = o })) (moment c' d' n)) (sym none)
            (record {
              book = book_set false (gone.constraints ∙ ap (λ v. with_present v p false) (sym same));
              kept = λ i x out free. gone.kept i x (out_here m lawful c d n known links i x out) (λ r. free (rests_here m lawful c d n known links just p i x r));
              dated =
                  subst (λ b. Dated b d.clock (standing d) (standing d'))
                  (sym (here m lawful c' d' n known' links' ∙ same_within false (gone.constraints ∙ ap (λ v. with_present v p false) (sym same)))) gone.dated;
              answer = (
                record { values = k; wiped = o },
                refl,
                record {
                  count = count_is_less d'.sets d.sets k d'.sets_long d.sets_long d'.wide d.wide gone.grew gone.count;
                  wiped = wiped_here m lawful c' d' n known' links' long o wiped;
                  later = gone.later;
                  clock =
                      rose_clock c d d' gone.rose
                      ∙ ap (λ b. d.clock + values_in (λ i x. b i x && (not (shown d' i x) && nat_le d.clock ((standing d').time i x))) 32)
                      (sym (here m lawful c' d' n known' links' ∙ same_within false (gone.constraints ∙ ap (λ v. with_present v p false) (sym same))));
                  soon = gone.soon;
                },
              );
            });
        right = right_here m lawful c' d' n known' links' gone.right;
      }
