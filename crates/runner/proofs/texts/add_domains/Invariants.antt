use Rattle.std.proofs.Common.{◌≡◌, ◌++◌, drop, string_bytes}
use Rattle.runner.specs.Lines.{domains_text}
use Rattle.runner.proofs.texts.add_domains.Given as goal

-- with the lines that are left the text is whole
abbrev pub invariant-loop-variable : goal.invariant-loop-variable
invariant-loop-variable l =
    string_bytes l.text ++ domains_text l.variable (drop l.variable l.domains) ≡ string_bytes l.initial.text ++ domains_text 0 l.domains
