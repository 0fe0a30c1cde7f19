use Rattle.std.proofs.Common.{sym, subst₂}
use Rattle.domains.specs.declared.Constraints.{Constraints}
use Rattle.domains.specs.declared.Domains.{Domains}
use Rattle.domains.specs.Stands.{Stands}
use Rattle.domains.proofs.Setup.{stands_none}
use Rattle.engine.proofs.state.Engine.new.Goals as goal

pub invariant_of-result : goal.invariant_of-result
invariant_of-result c =
    let P : Constraints → Domains → Type 0 = λ n d. Stands n d in
    record { stands = ∣ subst₂ P (sym c.no_constraints.ensures) (sym c.no_domains.ensures) stands_none ∣₁ }
