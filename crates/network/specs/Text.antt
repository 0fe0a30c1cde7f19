-- What is printed of a change.
use Rattle.std.specs.Prelude.{ℕ, List, ◌++◌, Some, None, codes, decimal, Option}
use Rattle.network.specs.declared.law.Change.{Change}

-- the wiped-out variable, or a dash
abbrev pub wiped_text : Option ℕ → List ℕ
wiped_text (Some i) = decimal i
wiped_text None = codes "-"

-- how many values went or came back, and the wiped-out variable
abbrev pub change_text : Change → List ℕ
change_text c = decimal c.values ++ (codes " " ++ wiped_text c.wiped)
