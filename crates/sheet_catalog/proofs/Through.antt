-- Through the constraints of an accepted sheet, one start after the other.
use Rattle.std.proofs.Common.{◌≡◌, ℕ, ◌+◌, ◌<◌, ◌≤◌, List, ◌++◌, length, drop, set, sym, subst}
use Rattle.std.proofs.lemmas.List.{get_or_append_left}
use Rattle.sheet.specs.declared.accepted.Accepted.{Accepted}
use Rattle.sheet.proofs.Encoded.{encoded}
use Rattle.sheet_format.specs.Numbers.{number2}
use Rattle.sheet_format.specs.Encoding.{constraint_record}
use Rattle.sheet_format.specs.Decoding.{decode}
use Rattle.sheet_catalog.specs.Meant.{sheet_in, constraint_at}
use Rattle.sheet_catalog.specs.StartsAt.{BeginsAt, StartsAt}
use Rattle.sheet_catalog.specs.Lawfulness.{accepted_in, counted_in}
use Rattle.sheet_catalog.proofs.Read.{Stepped, stepped_in, from_constraint, first_place, few_in, begun_more}

pub few_at : (s : Accepted) → s.found.constraints ≤ 96
few_at s = few_in s.bytes.now s.found (encoded s)

pub first_at : (s : Accepted) → drop s.found.constraints_at s.bytes.now ≡ from_constraint (decode s.bytes.now) 0
first_at s = first_place s.bytes.now s.found (encoded s)

stepped_at : (s : Accepted) (p place : ℕ) → p < s.found.constraints → drop place s.bytes.now ≡ from_constraint (decode s.bytes.now) p → Stepped s.bytes.now (decode s.bytes.now) p place
stepped_at s p place = stepped_in s.bytes.now s.found p place (encoded s)

pub onward_at : (s : Accepted) (p place : ℕ) → p < s.found.constraints → drop place s.bytes.now ≡ from_constraint (decode s.bytes.now) p
    → drop (place + number2 s.bytes.now place) s.bytes.now ≡ from_constraint (decode s.bytes.now) (p + 1)
onward_at s p place h e = (stepped_at s p place h e).onward

pub begun_at : (s : Accepted) (starts : List ℕ) (p place : ℕ) → p < length starts → p < s.found.constraints → drop place s.bytes.now ≡ from_constraint (decode s.bytes.now) p
    → ((k : ℕ) → k < p → StartsAt s.bytes.now (decode s.bytes.now) starts k) → (k : ℕ) → k < p + 1 → StartsAt s.bytes.now (decode s.bytes.now) (set starts p place) k
begun_at s starts p place l h e before = begun_more s.bytes.now (decode s.bytes.now) starts p place l before (stepped_at s p place h e).begun

-- places that stand at the front of a list
pub begun_front : (s : Accepted) (starts rest : List ℕ) (p : ℕ) → p < length starts → StartsAt s.bytes.now (decode s.bytes.now) starts p
    → StartsAt s.bytes.now (sheet_in s.bytes.now) (starts ++ rest) p
begun_front s starts rest p l b =
    subst (λ t. StartsAt s.bytes.now t (starts ++ rest) p) (sym (accepted_in s.bytes.now s.found s.accepted))
    (subst (λ q. BeginsAt s.bytes.now q (constraint_record (constraint_at (decode s.bytes.now) p))) (sym (get_or_append_left starts rest 0 p l)) b)

-- how many there are
pub counted_at : (s : Accepted) → s.found.constraints ≡ length (sheet_in s.bytes.now).constraints
counted_at s = counted_in s.bytes.now s.found s.accepted (encoded s)
