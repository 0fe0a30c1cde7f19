use Rattle.domains.proofs.make.full.Goals as goal

pub returns-clause-shown : goal.returns-clause-shown
returns-clause-shown c = λ i x l. let a = (c.map.ensures.items.at i 0 0 l).2.met in a x
