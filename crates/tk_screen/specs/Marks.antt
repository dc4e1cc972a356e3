-- Steps. The marks of applications by their slots.
use Rattle.std.specs.Prelude.{◌≡◌, ◌≢◌, ℕ, nat_eq, false, true, Option, None, Some}
use Rattle.std.specs.BTreeSet.{contains}
use Rattle.std.specs.HashMap.{get}
use Rattle.std.specs.Ordering.{nat_cmp}
use Rattle.tk_screen.specs.declared.marks.Mark.{Mark}
use Rattle.tk_screen.specs.declared.marks.Marks.{Marks}

abbrev pub mark_of : ℕ → Marks → Option Mark
mark_of slot marks = get nat_eq marks.rows slot

-- every application but one has the mark that it had
abbrev pub LeavesOtherMarks : ℕ → Marks → Marks → Type 0
LeavesOtherMarks slot old new = (other : ℕ) → other ≢ slot → mark_of other new ≡ mark_of other old

-- a mark by which one window more is touched
pub record IsTouchedMark (number : ℕ) (old new : Mark) : Type 0 where
  pub reads : new.reads.entries ≡ old.reads.entries
  pub layout : new.layout ≡ old.layout
  pub repacked : new.repacked ≡ old.repacked
  pub touched : (other : ℕ) → contains nat_cmp new.touched other ≡ false → (other ≢ number) × (contains nat_cmp old.touched other ≡ false)

-- a mark is touched so, or it is gone
abbrev pub IsTouched : ℕ → Option Mark → Option Mark → Type 0
IsTouched number old None = Unit {0}
IsTouched number None (Some new) = ⊥
IsTouched number (Some old) (Some new) = IsTouchedMark number old new

-- a mark by which other windows may be packed, or packed otherwise
pub record IsRepackedMark (old new : Mark) : Type 0 where
  pub reads : new.reads.entries ≡ old.reads.entries
  pub layout : new.layout ≡ old.layout
  pub touched : new.touched ≡ old.touched
  pub repacked : new.repacked ≡ true

abbrev pub IsRepacked : Option Mark → Option Mark → Type 0
IsRepacked None None = Unit {0}
IsRepacked None (Some new) = ⊥
IsRepacked (Some old) None = ⊥
IsRepacked (Some old) (Some new) = IsRepackedMark old new

-- an application has a mark that was put, or none
abbrev pub IsPutOrNone : Option Mark → Option Mark → Type 0
IsPutOrNone put None = Unit {0}
IsPutOrNone put (Some mark) = put ≡ Some mark
