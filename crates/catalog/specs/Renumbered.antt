-- A catalog with its variables renumbered: each end e becomes entry e of a numbering.
use Rattle.std.specs.Prelude.{ℕ, ◌<◌, List, ◌≢◌}
use Rattle.std.proofs.Common.{sym, ⊎_elim}
use Rattle.std.proofs.lemmas.Bool.{cases_order}
use Rattle.catalog.specs.Meaning.{Meaning, Lawful}
use Rattle.catalog.specs.Numbered.{IsNumbering, entry}
use Rattle.catalog.specs.declared.numbering.Numbering.{Numbering}

-- what a value of the type holds is one
pub is_numbering : (n : Numbering) → IsNumbering n.to
is_numbering n = record { full = n.full; low = n.low; apart = λ e e' l h q. n.apart (e, e') (l, h) q }

abbrev pub renumbered : List ℕ → Meaning → Meaning
renumbered to m = record {
  count = m.count;
  left = λ p. entry to (m.left p);
  right = λ p. entry to (m.right p);
  allows = m.allows;
}

-- entries of different variables differ
pub entries_apart : (to : List ℕ) → IsNumbering to → (e e' : ℕ) → e < 32 → e' < 32 → (e ≢ e') → entry to e ≢ entry to e'
entries_apart to n e e' h h' ne q =
    ⊎_elim ne (⊎_elim (λ l. n.apart e e' l h' q) (λ l. n.apart e' e l h (sym q))) (cases_order e e')

pub renumbered_lawful : (to : List ℕ) → IsNumbering to → (m : Meaning) → Lawful m → Lawful (renumbered to m)
renumbered_lawful to n m f = record {
  few = f.few;
  left_low = λ p h. n.low (m.left p) (f.left_low p h);
  right_low = λ p h. n.low (m.right p) (f.right_low p h);
  apart = λ p h. entries_apart to n (m.left p) (m.right p) (f.left_low p h) (f.right_low p h) (f.apart p h);
}
