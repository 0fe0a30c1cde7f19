use Rattle.std.proofs.Common.{◌≡◌, length, subst, rules}
use Rattle.domains.specs.Sound.{Shape}
use Rattle.domains.specs.Stands.{Loaded}
use Rattle.domains.proofs.Lengths.{same_data}
use Rattle.domains.proofs.Setup.{load_shape, load_done}
use Rattle.engine.proofs.state.setup.write.Goals as goal

pub returns : goal.returns
returns c =
    let n = c.args.c.now in
    let a = c.requires.loadable in
    let p = c.args.constraint in
    let full : length c.args.rows.now ≡ 64 = search rules in
    let full_turned : length c.turned-turned.result ≡ 64 = search rules in
    record {
      loaded = subst (λ k. Loaded n k p c.args.ends.left c.args.ends.right c.args.rows.now) same_data
          (load_done n p c.args.ends.left c.args.ends.right c.args.rows.now c.turned-turned.result a.low c.requires.shape full full_turned (λ x y _ _. c.turned-turned.ensures x y));
      shape = subst Shape same_data
          (load_shape n p c.args.ends.left c.args.ends.right c.args.rows.now c.turned-turned.result a.low c.requires.shape full full_turned (λ x y _ _. c.turned-turned.ensures x y)
          a.left_low a.right_low a.apart);
    }
