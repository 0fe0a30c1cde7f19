-- What a whole record is read as, whether its number is that of a kind or not.
use Rattle.std.proofs.Common.{◌≡◌, ℕ, ◌-◌, ◌≤◌, List, length, take, drop, Some, None, ◌≢◌, sym, ap, ◌∙◌}
use Rattle.sheet_format.specs.declared.kinds.Kind.{Kind}
use Rattle.sheet_format.specs.declared.faults.RecordCause.TheVariants.{UnknownKind}
use Rattle.sheet_format.specs.Numbers.{number2}
use Rattle.sheet_format.specs.Kinds.{kind_number}
use Rattle.sheet_format.specs.Reading.{Shown, shown, reading, taken, broken}
use Rattle.sheet_law.proofs.Framing.{body_cut, whole_record}
use Rattle.sheet_law.proofs.Alone.{unknown}

-- a record of a kind, and one whose number no kind has
pub known_record : (xs : List ℕ) (place n k number : ℕ) (body : List ℕ) (s : Shown) → 4 ≤ length xs → n ≡ number2 xs 0 → 4 ≤ n → n ≤ length xs
    → number ≡ number2 xs 2 → k ≡ number → body ≡ take (n - 4) (drop 4 xs) → shown k body place ≡ Some s
    → reading xs place ≡ taken s (drop n xs)
known_record xs place n k number body s long e low high kind same f t =
    whole_record xs place n (Some s) long e low high
    (ap (λ m. shown m (drop 4 (take n xs)) place) (sym (same ∙ kind))
    ∙ ap (λ ys. shown k ys place) (sym (f ∙ body_cut xs n low))
    ∙ t)

pub unknown_record : (xs : List ℕ) (place n number : ℕ) → 4 ≤ length xs → n ≡ number2 xs 0 → 4 ≤ n → n ≤ length xs → number ≡ number2 xs 2
    → ((kind : Kind) → kind_number kind ≢ number) → reading xs place ≡ broken UnknownKind
unknown_record xs place n number long e low high kind none =
    whole_record xs place n None long e low high (ap (λ m. shown m (drop 4 (take n xs)) place) (sym kind) ∙ unknown number (drop 4 (take n xs)) place none)
