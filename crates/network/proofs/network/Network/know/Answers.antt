use Rattle.std.specs.Result.{is_ok}
use Rattle.std.proofs.Common.{refl, arith, rules}
use Rattle.std.proofs.lemmas.Grind.{common_steps}
use Rattle.network.proofs.Learning.{learnt}
use Rattle.network.proofs.network.Network.know.Goals as goal

pub returns-then-not-self-constraint : goal.returns-then-not-self-constraint
returns-then-not-self-constraint g c =
    record {
      catalog = refl;
      learnt = λ linked.
          let m = g.C.Catalog.meaning c.args.self.now.catalog in
          learnt m (g.C.Catalog.lawful c.args.self.now.catalog) c.args.constraint c.args.left c.args.right c.requires.ends
          c.args.self.now.state _ c.rows-rows.result (is_ok c.load-loaded.result) c.requires.absent c.load-loaded.ensures.can c.load-loaded.ensures.loaded c.load-loaded.ensures.domains refl (search rules)
          (λ x y hx hy. grind (arith, common_steps, c.rows-rows.ensures x y))
          linked;
    }
