-- What is known of the variables of an accepted sheet.
use Rattle.std.proofs.Common.{◌≡◌, ℕ, ◌+◌, ◌*◌, ◌<◌, ◌≤◌, List, [], length, get_or, take, None, Err, sym, refl, ap, ◌∙◌, subst, arith}
use Rattle.catalog.specs.Joined.{joined}
use Rattle.catalog.specs.Numbered.{IsNumbering, entry}
use Rattle.catalog.specs.Renumbered.{renumbered}
use Rattle.catalog.specs.House.{house}
use Rattle.catalog.specs.Causes.{sizes_refusal}
use Rattle.sheet.specs.declared.accepted.Accepted.{Accepted}
use Rattle.sheet.proofs.Encoded.{encoded}
use Rattle.sheet_format.specs.declared.faults.SheetFault.{SheetFault}
use Rattle.sheet_format.specs.declared.found.Variable.{Variable}
use Rattle.sheet_format.specs.Decoding.{decode}
use Rattle.sheet_format.specs.Numbers.{number2}
use Rattle.sheet_format.specs.Value.{no_variable}
use Rattle.sheet_format.specs.Verdict.{verdict, walked}
use Rattle.sheet_catalog.specs.Meant.{empty_sheet, meaning_of, sheet_in}
use Rattle.sheet_catalog.specs.Placed.{number_of, numbers_of, size_of_house, SizesOf}
use Rattle.sheet_catalog.specs.Lawfulness.{accepted_in, refused_in}
use Rattle.sheet_catalog.proofs.Placing.{VariableThere, variable_there, many_in, numbering, numbers_all, own_numbers, sizes_in}
use Rattle.sheet_catalog.specs.Combined.{combined_of}
use Rattle.sheet_catalog.proofs.Fitting.{good_sizes}

pub many : (s : Accepted) → s.found.variables ≡ length (decode s.bytes.now).variables
many s = many_in s.bytes.now s.found (encoded s)

pub few : (s : Accepted) → s.found.variables ≤ 32
few s = let k = many s in let n = (encoded s).valid.few_variables in omega arith

there : (s : Accepted) (e : ℕ) → e < s.found.variables → VariableThere s.bytes.now e
there s e = variable_there s.bytes.now s.found e (encoded s)

same : (w : Variable) (size house : ℕ) → size ≡ w.size → house ≡ w.house → ◌≡◌ {A = Variable} (record { size = size; house = house }) w
same w size house p q = ap (λ x. record { size = x; house = house }) p ∙ ap (λ x. record { size = w.size; house = x }) q

-- a variable that is made of the words of its record
pub variable_read : (s : Accepted) (e size house : ℕ) → e < s.found.variables → size ≡ number2 s.bytes.now (8 + 8 * e + 4) → house ≡ number2 s.bytes.now (8 + 8 * e + 6)
    → ◌≡◌ {A = Variable} (record { size = size; house = house }) (get_or (decode s.bytes.now).variables e no_variable)
variable_read s e size house h p q = let v = there s e h in same _ size house (p ∙ v.size) (q ∙ v.house)

-- the numbers of the variables
pub numbers_at : (s : Accepted) (xs : List ℕ) → length xs ≡ 32 → ((k : ℕ) → k < 32 → get_or xs k 0 ≡ number_of (decode s.bytes.now) k) → xs ≡ numbers_of (sheet_in s.bytes.now)
numbers_at s xs l each = numbers_all (decode s.bytes.now) xs l each ∙ ap numbers_of (sym (accepted_in s.bytes.now s.found s.accepted))

pub numbering_at : (s : Accepted) (xs : List ℕ) → length xs ≡ 32 → ((k : ℕ) → k < 32 → get_or xs k 0 ≡ number_of (decode s.bytes.now) k) → IsNumbering xs
numbering_at s xs l each = subst IsNumbering (sym (numbers_all (decode s.bytes.now) xs l each)) (numbering (decode s.bytes.now) (encoded s).valid)

-- the sizes by house numbers
pub sizes_at : (s : Accepted) (sizes : List ℕ) → length sizes ≡ 32 → ((h : ℕ) → h < 32 → get_or sizes h 0 ≡ size_of_house (decode s.bytes.now).variables h)
    → SizesOf (sheet_in s.bytes.now) (take s.found.variables sizes)
sizes_at s sizes = sizes_in s.bytes.now s.found sizes s.accepted (encoded s)

-- a network takes them
pub good_at : (s : Accepted) (sizes : List ℕ) → length sizes ≡ 32 → ((h : ℕ) → h < 32 → get_or sizes h 0 ≡ size_of_house (decode s.bytes.now).variables h)
    → sizes_refusal (take s.found.variables sizes) ≡ None
good_at s sizes l each =
    good_sizes (decode s.bytes.now) (take s.found.variables sizes) (encoded s).valid
    (subst (λ z. SizesOf z (take s.found.variables sizes)) (accepted_in s.bytes.now s.found s.accepted) (sizes_at s sizes l each))

-- no bytes hold nothing, as all that are refused
none_in : sheet_in [] ≡ empty_sheet
unfolding walked
none_in = refl

pub refused_combined : (bytes none : List ℕ) (f : SheetFault) (to : List ℕ) → Err f ≡ verdict bytes → none ≡ [] → length to ≡ 32 → ((e : ℕ) → e < 32 → entry to e ≡ e)
    → joined (renumbered to (meaning_of (sheet_in none))) house ≡ combined_of bytes
refused_combined bytes none f to r e l each =
    ap (λ t. joined (renumbered t (meaning_of (sheet_in none))) house) (own_numbers bytes f to r l each)
    ∙ ap (λ s. joined (renumbered (numbers_of (sheet_in bytes)) (meaning_of s)) house) (ap sheet_in e ∙ none_in ∙ sym (refused_in bytes f r))
