-- Steps. How far a list was searched for an item.
use Rattle.std.specs.Prelude.{◌≡◌, ℕ, ◌+◌, ◌-◌, ◌<◌, ◌≤◌, Bool, true, false, ◌||◌, List, ◌++◌, drop, length, slice_index, bytes_eq, IsUtf8, Option, Some, None, Result, Ok, Err}
use Rattle.std.specs.Borrow.{Bor}
use Rattle.std.specs.List.{list_any}
use Rattle.std.specs.Str.{IsCharBoundary}
use Rattle.memchr.specs.Find.{OccursAt}
use Rattle.tcl_text.specs.Backslash.{is_white}
use Rattle.tcl_text.specs.Readings.{ListPlace, list_of}
use Rattle.tcl_text.specs.Searching.{has_item}
use Rattle.tcl_text.specs.Splitting.{GivesElement, GivesItem, Unescapes}
use Rattle.tcl_text.specs.declared.fault.ListFault.{ListFault}
use Rattle.tcl_text.specs.declared.fault.SplitFault.{SplitFault}

-- what a search says of a list, the front of which has the item or not
abbrev pub or_found : Bool → Result Bool ListFault → Result Bool ListFault
or_found found (Ok among) = Ok (found || among)
or_found found (Err fault) = Err fault

-- the items up to a place of a list were compared with a text, and another begins there or the list ends
pub record PassesFront (item text : List ℕ) (place : ℕ) (found : Bool) : Type 0 where
  pub told : has_item item (list_of text) ≡ or_found found (has_item item (list_of (drop place text)))
  pub within : place ≤ length text
  pub black : place < length text → is_white (slice_index text place) ≡ false
  pub cut : IsUtf8 text → IsCharBoundary text place

-- the items in front of the rest of a list were compared with a text, and the rest begins with another item or is empty
pub record Passes (item text rest : List ℕ) (found : Bool) : Type 0 where
  pub told : has_item item (list_of text) ≡ or_found found (has_item item (list_of rest))
  pub within : length rest ≤ length text
  pub black : 0 < length rest → is_white (slice_index rest 0) ≡ false

-- the item stands at the place of a text, white space behind it, and white space or nothing in front of it
pub record IsWordAt (text item : List ℕ) (at : ℕ) : Type 0 where
  pub occurs : OccursAt text item at
  pub inside : at + length item < length text
  pub behind : is_white (slice_index text (at + length item)) ≡ true
  pub before : 0 < at → is_white (slice_index text (at - 1)) ≡ true

-- the item is one of the words of a text, behind which white space stands
pub record HasWord (text item : List ℕ) : Type 0 where
  pub some : 0 < length item
  pub black : list_any is_white item ≡ false
  pub at : ℕ
  pub stands : IsWordAt text item at

-- what remains of the item behind the bytes, or that it doesn't begin with them
abbrev pub Remains : List ℕ → List ℕ → Option (Bor (List ℕ)) → Type 0
Remains item bytes (Some left) = bytes ++ left.now ≡ item
Remains item bytes None = (rest : List ℕ) → bytes ++ rest ≡ item → ⊥

-- what remains of any item behind these bytes more
abbrev pub GoesOn : Option (Bor (List ℕ)) → List ℕ → Option (Bor (List ℕ)) → Type 0
GoesOn left more now = (item bytes : List ℕ) → Remains item bytes left → Remains item (bytes ++ more) now

-- an element in quotes, or a bare one, was read up to a place, and whether it is the item if it ends there
pub record ReadsItem (quoted : Bool) (item text : List ℕ) (at : ℕ) (same : Bool) : Type 0 where
  pub bytes : List ℕ
  pub reads : Unescapes quoted text bytes at
  pub told : same ≡ bytes_eq bytes item

-- an element of which this holds, and whether it is the item
pub record Compared (holds : List ℕ → Type 0) (item : List ℕ) (same : Bool) : Type 0 where
  pub element : List ℕ
  pub told : same ≡ bytes_eq element item
  pub gives : holds element

-- the text goes on with an element, which is the item or isn't, and then with the list in what is left; or it is at fault
abbrev pub TellsItem : ListPlace → List ℕ → List ℕ → Result (Bool × Bor (List ℕ)) SplitFault → Type 0
TellsItem place item text (Ok r) = Compared (λ element. GivesItem place text (Ok (element, r.1))) item r.0
TellsItem place item text (Err fault) = GivesItem place text (Err fault)

-- the same of a whole list
abbrev pub TellsElement : List ℕ → List ℕ → Result (Bool × Bor (List ℕ)) SplitFault → Type 0
TellsElement item text (Ok r) = Compared (λ element. GivesElement text (Ok (element, r.1))) item r.0
TellsElement item text (Err fault) = GivesElement text (Err fault)
