use Rattle.std.proofs.Common.{◌≡◌, true, ◌∙◌, rules}
use Rattle.std.specs.Result.{is_ok}
use Rattle.std.proofs.lemmas.Bool.{cond-true, lt-ltb}
use Rattle.engine.proofs.Frees.{one_left}
use Rattle.engine.proofs.release.free.Goals as goal

pub returns : goal.returns
returns c =
    let d = c.args.d.now in
    let q = c.args.q.now in
    let fits : is_ok c.push.result ≡ true =
    c.push.ensures.fits
    ∙ lt-ltb q.len q.limit (one_left d c.put_back.new.d q.len q.limit c.requires.limit c.requires.few c.put_back.ensures.more)
    in
    record {
      put = c.put_back.ensures.put;
      clock = c.put_back.ensures.clock;
      why = c.put_back.ensures.why;
      more = c.put_back.ensures.more;
      waiting = c.push.ensures.waiting ∙ cond-true (is_ok c.push.result) _ _ fits ∙ search rules;
      len = c.push.ensures.len ∙ cond-true (is_ok c.push.result) _ _ fits;
      kept = c.push.ensures.kept;
    }
