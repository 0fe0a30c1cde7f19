-- A record with the body of an entry's is that entry's.
use Rattle.std.proofs.Common.{◌≡◌, ℕ, List, Some, Result, refl, subst}
use Rattle.sheet_format.specs.declared.kinds.Kind.{Kind}
use Rattle.sheet_format.specs.declared.kinds.Kind.TheVariants.{Heading, Variable, Sum, Table, Add, Retract, End}
use Rattle.sheet_format.specs.declared.writing.WriteFault.{WriteFault}
use Rattle.sheet_format.specs.Kinds.{kind_number}
use Rattle.sheet_format.specs.Reading.{Shown, shown}
use Rattle.sheet_format.specs.Writing.{Entry, entry_record, WriterState, PutsRecord, PutsEntry}

pub put_entry : (e : Entry) (body : List ℕ) (p : WriterState) (xs : List ℕ) (q : WriterState) (ys : List ℕ) (r : Result ℕ WriteFault) → body ≡ (entry_record e).body
    → PutsRecord p xs (record { kind = (entry_record e).kind; body = body }) q ys r → PutsEntry p xs e q ys r
put_entry e body p xs q ys r same puts = subst (λ b. PutsRecord p xs (record { kind = (entry_record e).kind; body = b }) q ys r) same puts

-- a record of any kind shows something
pub record Shows (kind : Kind) (body : List ℕ) (place : ℕ) : Type 0 where
  pub shows : Shown
  pub is : shown (kind_number kind) body place ≡ Some shows

pub some_shown : (kind : Kind) (body : List ℕ) (place : ℕ) → Shows kind body place
some_shown Heading body place = record { shows = _; is = refl }
some_shown Variable body place = record { shows = _; is = refl }
some_shown Sum body place = record { shows = _; is = refl }
some_shown Table body place = record { shows = _; is = refl }
some_shown Add body place = record { shows = _; is = refl }
some_shown Retract body place = record { shows = _; is = refl }
some_shown End body place = record { shows = _; is = refl }

pub same_shown : (s t : Shown) → Some s ≡ Some t → s ≡ t
same_shown s t e = cc
