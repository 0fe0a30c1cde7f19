-- Which calls are refused, by which cause; and the book after a call that is not.
pub use Rattle.domains.specs.Stands.{spent}
use Rattle.std.specs.Prelude.{ℕ, Bool, true, false, cond, not, ◌&&◌, ◌||◌, length, Some, None, Option, ◌==◌, nat_lt, slice_index}
use Rattle.catalog.specs.Meaning.{Meaning}
use Rattle.catalog.specs.declared.refusal.Refusal.{Refusal}
use Rattle.catalog.specs.declared.refusal.Refusal.TheVariants.{NoSuchConstraint, AlreadyIn, NotIn, ShortBuffer, ClockSpent, NoSuchValue}
use Rattle.catalog.specs.Causes.{first, sizes_refusal, constraint_refusal}
use Rattle.network.specs.Moment.{Book}
use Rattle.network.specs.Calls.{Lengths, Call, opens, adds, retracts, asks_domain, asks_shown, asks_justification, asks_wiped}

-- a cause, where it holds
abbrev pub when : Bool → Refusal → Option Refusal
when b e = cond b (Some e) None

-- a buffer is too short: fewer than 128 entries for constraints, or fewer than 2,048 for values
abbrev pub short : Lengths → Bool
short r = nat_lt r.waiting 128 || nat_lt r.returning 2048

-- a short buffer comes before a spent clock
abbrev pub lent_refusal : Lengths → Bool → Option Refusal
lent_refusal r late = first (when (short r) ShortBuffer) (when late ClockSpent)

-- The first cause that turns a call down: from the meaning of the catalog, the book, and whether the clock is spent.
abbrev pub refusal : Meaning → Book → Bool → Call → Option Refusal
refusal m b late (opens sizes time) = sizes_refusal sizes
refusal m b late (adds p lengths) =
    first (constraint_refusal m (length b.sizes) p) (first (when (b.present p) AlreadyIn) (lent_refusal lengths late))
refusal m b late (retracts p lengths) =
    first (when (not (nat_lt p m.count)) NoSuchConstraint) (first (when (not (b.present p)) NotIn) (lent_refusal lengths late))
refusal m b late (asks_domain i) = when (not (nat_lt i (length b.sizes))) NoSuchValue
refusal m b late (asks_shown i x) = when (not (nat_lt i (length b.sizes) && nat_lt x (slice_index b.sizes i))) NoSuchValue
refusal m b late (asks_justification i x) = when (not (nat_lt i (length b.sizes) && nat_lt x (slice_index b.sizes i))) NoSuchValue
refusal m b late asks_wiped = None

-- the book after a call that is not refused
abbrev pub next : Book → Call → Book
next b (opens sizes time) = record { sizes = sizes; present = λ q. false }
next b (adds p lengths) = record { sizes = b.sizes; present = λ q. cond (q == p) true (b.present q) }
next b (retracts p lengths) = record { sizes = b.sizes; present = λ q. cond (q == p) false (b.present q) }
next b (asks_domain i) = b
next b (asks_shown i x) = b
next b (asks_justification i x) = b
next b asks_wiped = b
