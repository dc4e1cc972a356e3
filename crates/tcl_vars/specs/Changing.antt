-- Steps. What changing a text that is there does in one content, in one frame and in the store.
use Rattle.std.specs.Prelude.{◌≡◌, ◌≢◌, ℕ, List, Option, None, Some, Result, Ok, Err, IfErr, OnOk, OnErr}
use Rattle.tcl_text.specs.declared.edit.Edit.{Edit}
use Rattle.tcl_vars.specs.declared.content.Content.{Content}
use Rattle.tcl_text.specs.declared.fault.ChangeFault.{ChangeFault}
use Rattle.tcl_text.specs.declared.fault.ChangeFault.TheVariants.{NoMemory}
use Rattle.tcl_vars.specs.Change.{edited_by}
use Rattle.tcl_vars.specs.Name.{Place}
use Rattle.tcl_vars.specs.Put.{PutsContent, PutsText, Sets}
use Rattle.tcl_vars.specs.Store.{Store, Frame, content_at, end_of, link_of, text_at, text_of, with_text_at}
use Rattle.tcl_vars.specs.Table.{value_at}

-- the text of a content that is no link, or of its element, is changed
pub record ChangesContent (old : Content) (element : Option (List ℕ)) (edit : Edit) (new : Content) : Type 0 where
  pub value : List ℕ
  pub changed : edited_by edit (text_of (Some old) element) ≡ Ok value
  pub puts : (room : ℕ) → PutsContent old element value room 0 new

-- why it isn't
pub record KeepsContent (old : Content) (element : Option (List ℕ)) (edit : Edit) (fault : ChangeFault) : Type 0 where
  pub linkless : link_of (Some old) ≡ None
  pub why : edited_by edit (text_of (Some old) element) ≡ Err fault

-- the text of a variable of a frame that is no link, or of its element, is changed
pub record ChangesText (old : Frame) (place : Place) (edit : Edit) (new : Frame) : Type 0 where
  pub value : List ℕ
  pub changed : edited_by edit (text_of (value_at old place.variable) place.element) ≡ Ok value
  pub puts : (room : ℕ) → PutsText old place value room 0 new

pub record KeepsText (old : Frame) (place : Place) (edit : Edit) (fault : ChangeFault) : Type 0 where
  pub linkless : link_of (value_at old place.variable) ≡ None
  pub why : edited_by edit (text_of (value_at old place.variable) place.element) ≡ Err fault

-- the text to which a place leads is changed, whose variable is no link
pub record ChangesHere (old : Store) (place : Place) (edit : Edit) (new : Store) : Type 0 where
  pub value : List ℕ
  pub changed : edited_by edit (text_at old (Some place)) ≡ Ok value
  pub sets : Sets old place value (Ok new)

pub record KeepsHere (old : Store) (place : Place) (edit : Edit) (fault : ChangeFault) : Type 0 where
  pub linkless : link_of (content_at old place) ≡ None
  pub why : edited_by edit (text_at old (Some place)) ≡ Err fault

-- the text at a place to which another leads is changed
pub record ChangesAt (old : Store) (place : Option Place) (edit : Edit) (new : Store) : Type 0 where
  pub value : List ℕ
  pub changed : edited_by edit (text_at old place) ≡ Ok value
  pub set : with_text_at old place value ≡ Ok new

-- what comes of changing the text to which a place leads: it is changed, or it is refused and nothing changes
pub record ChangesThere (old : Store) (place : Place) (edit : Edit) (result : Result (Unit {0}) ChangeFault) (new : Store) : Type 0 where
  pub ok : OnOk result (ChangesAt old (end_of old place) edit new)
  pub refused : IfErr result (λ fault. fault ≢ NoMemory → edited_by edit (text_at old (end_of old place)) ≡ Err fault)
  pub err : OnErr result (new ≡ old)
