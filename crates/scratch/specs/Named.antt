-- The constraints that a list names; one that is named again counts once.
use Rattle.std.specs.Prelude.{ℕ, Bool, false, ◌||◌, List, [], ◌∷◌, ◌==◌}

abbrev pub named : List ℕ → ℕ → Bool
named [] p = false
named (q ∷ qs) p = q == p || named qs p
