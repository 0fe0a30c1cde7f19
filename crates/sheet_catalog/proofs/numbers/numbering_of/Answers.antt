use Rattle.std.proofs.lemmas.Bool.{some_since}
use Rattle.sheet_catalog.proofs.Known.{numbering_at}
use Rattle.sheet_catalog.proofs.numbers.numbering_of.Goals as goal

pub unwrap-requires : goal.unwrap-requires
unwrap-requires c =
    some_since c.new.result _ _ c.new.ensures
    (λ p. p (numbering_at c.args.sheet.now c.numbers.result c.numbers.ensures.wide c.numbers.ensures.each))
