use Rattle.std.proofs.Common.{◌≡◌, ℕ, ◌<◌, arith}
use Rattle.catalog.specs.Numbered.{entry}
use Rattle.catalog.proofs.numbering.Numbering.identity.Goals as goal

pub invariant_of-result : goal.invariant_of-result
invariant_of-result c =
    let own : (e : ℕ) → e < 32 → entry c.in_order.result e ≡ e = c.in_order.ensures.own in
    record {
      full = c.in_order.ensures.wide;
      low = λ e h. omega (arith, own e h);
      apart = λ v h q. omega (arith, own v.0 (omega (arith, h.0, h.1)), own v.1 h.1, h.0, q);
    }
