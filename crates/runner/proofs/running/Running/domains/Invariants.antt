use Rattle.std.proofs.Common.{◌≡◌, ◌≤◌, map, vec_items, vec_len, vec_capacity}
use Rattle.network.specs.declared.law.Answer.TheVariants.{Domain}
use Rattle.runner.specs.Led.{Led, sizes_at}
use Rattle.runner.specs.Runs.{domains_asked}
use Rattle.runner.proofs.running.Running.domains.Given as goal

-- the variables so far were asked for, and there is room for the domains of the others
abbrev pub invariant-loop-variable : goal.invariant-loop-variable
invariant-loop-variable g l =
    Led g.C.Catalog.meaning l.initial.self (domains_asked l.variable) (map Domain (vec_items l.domains)) l.self
    × (sizes_at l.self ≡ sizes_at l.initial.self)
    × (vec_len l.domains ≡ l.variable)
    × (l.n ≤ vec_capacity l.domains)
