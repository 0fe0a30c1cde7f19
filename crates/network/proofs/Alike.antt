-- What stands rightly under arcs stands rightly under arcs that ask the same.
use Rattle.std.proofs.Common.{◌≡◌, ℕ, ◌<◌, true, sym, ap, ◌∙◌, subst}
use Rattle.arcs.specs.Arcs.{Arcs}
use Rattle.arcs.specs.Family.{Family, Largest}
use Rattle.arcs.proofs.Covering.{Covers, covers_largest}
use Rattle.arcs.specs.Standing.{Standing, Out, Accounts, Justified, Reasons, Rests, names, through}
use Rattle.network.specs.Alike.{Alike}

module _ (b : Family) (a a' : Arcs) (like : Alike b a a') where
  there : Covers b a a'
  there i r on = record {
    reason = r;
    on = like.on i r ∙ on;
    far = like.far i r on;
    fits = λ x y bx by h. sym (like.fits i r x y on bx by) ∙ h;
  }

  back : Covers b a' a
  back i r on' =
      let on : a.on i r ≡ true = sym (like.on i r) ∙ on' in
      record {
        reason = r;
        on = on;
        far = sym (like.far i r on);
        fits = λ x y bx by h. like.fits i r x y on bx (ap (λ j. b j y) (sym (like.far i r on)) ∙ by) ∙ h;
      }

  pub alike_largest : (f : Family) → Largest a b f → Largest a' b f
  alike_largest f l = covers_largest b a a' f there back l

  pub alike_justified : (s : Standing) → Justified a b s → Justified a' b s
  alike_justified s just i x out =
      let acc : Accounts a b s i x (s.reason i x) (s.time i x) = just i x out in
      let r : ℕ = s.reason i x in
      let on : a.on i r ≡ true = acc.on in
      let same : a'.far i r ≡ a.far i r = like.far i r on in
      record {
        on = like.on i r ∙ on;
        gone = λ y by f.
            ap (λ j. s.shown j y) same
            ∙ acc.gone y (ap (λ j. b j y) (sym same) ∙ by) (sym (like.fits i r x y on out.inside (ap (λ j. b j y) (sym same) ∙ by)) ∙ f);
        before = λ y by f.
            subst (λ j. s.time j y < s.time i x) (sym same)
            (acc.before y (ap (λ j. b j y) (sym same) ∙ by) (sym (like.fits i r x y on out.inside (ap (λ j. b j y) (sym same) ∙ by)) ∙ f));
      }

  -- what rests on reasons is out
  rests_out : (s : Standing) (p : Reasons) (i x : ℕ) → Rests a b s p i x → Out b s i x
  rests_out s p i x (names out h) = out
  rests_out s p i x (through out y f h) = out

  pub alike_rests : (s : Standing) (p : Reasons) → Justified a b s → (i x : ℕ) → Rests a b s p i x → Rests a' b s p i x
  alike_rests s p just i x (names out h) = names out h
  alike_rests s p just i x (through out y f h) =
      let r : ℕ = s.reason i x in
      let on : a.on i r ≡ true = (just i x out).on in
      through out y (like.fits i r x y on out.inside (rests_out s p (a.far i r) y h).inside ∙ f)
      (subst (λ j. Rests a' b s p j y) (sym (like.far i r on)) (alike_rests s p just (a.far i r) y h))
