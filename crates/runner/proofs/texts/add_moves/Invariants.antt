use Rattle.std.proofs.Common.{◌≡◌, ◌++◌, drop, length, string_bytes}
use Rattle.runner.specs.Lines.{moves_text}
use Rattle.runner.proofs.texts.add_moves.Given as goal

-- with the lines that are left the text is whole
abbrev pub invariant-loop-m : goal.invariant-loop-m
invariant-loop-m l =
    string_bytes l.text ++ moves_text (drop (length l.yielded) l.moves) (drop (length l.yielded) l.outcomes)
    ≡ string_bytes l.initial.text ++ moves_text l.moves l.outcomes
