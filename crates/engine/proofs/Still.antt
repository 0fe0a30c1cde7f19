-- Where nothing has gone out yet.
use Rattle.std.proofs.Common.{refl, arith}
use Rattle.arcs.proofs.Keeps.{same_refl}
use Rattle.domains.specs.declared.Arc.{Arc}
use Rattle.domains.specs.declared.Constraints.{Constraints}
use Rattle.domains.specs.declared.Domains.{Domains}
use Rattle.domains.specs.Model.{standing}
use Rattle.domains.specs.Sound.{Sound, Went, Revising}

pub went_same : (c : Constraints) (d : Domains) → Went c d d
went_same c d =
    record {
      fewer = λ i x h. h;
      kept = λ i x o. same_refl (standing d) i x;
      dated = λ i x o l. (o, same_refl (standing d) i x);
      spent = refl;
      later = omega arith;
      idle = λ e. refl;
    }

-- no value is looked at yet
pub revising_none : (c : Constraints) (d : Domains) (a : Arc) → Sound c d → Revising c d d a 0
revising_none c d a sound =
    record {
      sound = sound;
      went = went_same c d;
      below =
          record {
            supported = λ k l h. absurd (omega arith);
            kept = λ k h s. h;
            later = λ k l. refl;
            others = λ j ne. refl;
          };
    }
