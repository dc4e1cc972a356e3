-- Steps. What unsetting does in one content, in one frame and in the store.
use Rattle.std.specs.Prelude.{false, ◌≡◌, ◌≢◌, ℕ, ◌+◌, List, Option, None, Some, Result, Ok, Err, IfErr, OnOk, OnErr}
use Rattle.tcl_vars.specs.declared.content.Content.{Content}
use Rattle.tcl_vars.specs.declared.content.Content.TheVariants.{Scalar, Array, Link}
use Rattle.tcl_vars.specs.declared.content.Removal.{Removal}
use Rattle.tcl_vars.specs.declared.content.Removal.TheVariants.{Whole, Element, Linked}
use Rattle.tcl_text.specs.declared.fault.UnsetFault.{UnsetFault}
use Rattle.tcl_text.specs.declared.fault.UnsetFault.TheVariants.{NoMemory}
use Rattle.tcl_vars.specs.Name.{Place}
use Rattle.tcl_vars.specs.Store.{Store, Frame, content_at, content_count, frame_count, content_without, frame_with_rest, end_of, without_text_at, is_there, is_there_at, link_of}
use Rattle.tcl_vars.specs.Table.{value_at, values_but, with_value}

-- the whole goes, which counts so many
pub record UnsetsWhole (old : Content) (element : Option (List ℕ)) (count : ℕ) (new : Content) : Type 0 where
  pub linkless : link_of (Some old) ≡ None
  pub given : content_without (Some old) element ≡ Ok None
  pub counted : count ≡ content_count old
  pub kept : new ≡ old

-- an element is gone
pub record UnsetsElement (old : Content) (element : Option (List ℕ)) (new : Content) : Type 0 where
  pub linkless : link_of (Some old) ≡ None
  pub given : content_without (Some old) element ≡ Ok (Some new)
  pub counted : content_count new + 1 ≡ content_count old
  pub gone : is_there (Some new) element ≡ false

abbrev pub AfterUnset : Content → Option (List ℕ) → Removal → Content → Type 0
AfterUnset old element (Whole count) new = UnsetsWhole old element count new
AfterUnset old element Element new = UnsetsElement old element new
AfterUnset old element Linked new = (link_of (Some old) ≢ None) × (new ≡ old)

-- the variable of the place is no link, and this is left of the frame, which has so many variables fewer
pub record UnsetsText (old : Frame) (place : Place) (removed : ℕ) (new : Frame) : Type 0 where
  pub linkless : link_of (value_at old place.variable) ≡ None
  pub rest : Option Content
  pub given : content_without (value_at old place.variable) place.element ≡ Ok rest
  pub frame : new ≡ frame_with_rest old place.variable rest
  pub counted : frame_count new + removed ≡ frame_count old
  pub gone : is_there (value_at new place.variable) place.element ≡ false
  pub linkless_then : link_of (value_at new place.variable) ≡ None

-- why a frame doesn't unset a text
pub record RefusesUnset (old : Frame) (place : Place) (fault : UnsetFault) : Type 0 where
  pub linkless : link_of (value_at old place.variable) ≡ None
  pub given : content_without (value_at old place.variable) place.element ≡ Err fault

-- the variable of the place is no link, and unsetting its text, or that of its element, gives this store or this fault
pub record Unsets (old : Store) (place : Place) (gives : Result Store UnsetFault) : Type 0 where
  pub linkless : link_of (content_at old place) ≡ None
  pub given : without_text_at old (Some place) ≡ gives

-- what a place means is gone, and the links are as before
pub record IsGone (old new : Store) (place : Place) : Type 0 where
  pub gone : is_there (content_at new place) place.element ≡ false
  pub links : (other : Place) → link_of (content_at new other) ≡ link_of (content_at old other)

-- what comes of unsetting the text to which a place leads: it is there no more, or it is refused and nothing changes
pub record UnsetsThere (old : Store) (place : Place) (result : Result (Unit {0}) UnsetFault) (new : Store) : Type 0 where
  pub ok : OnOk result (without_text_at old (end_of old place) ≡ Ok new)
  pub refused : IfErr result (λ fault. fault ≢ NoMemory → without_text_at old (end_of old place) ≡ Err fault)
  pub err : OnErr result (new ≡ old)
  pub gone : OnOk result (is_there_at new (end_of new place) ≡ false)

-- the elements of an array go whose indices match a pattern
abbrev pub content_but : List ℕ → Content → Content
content_but pattern (Scalar text) = Scalar text
content_but pattern (Array elements) = Array (values_but pattern elements)
content_but pattern (Link frame name) = Link frame name

-- the same of what a variable of a frame stands for
abbrev pub frame_but : List ℕ → List ℕ → Option Content → Frame → Frame
frame_but pattern variable None frame = frame
frame_but pattern variable (Some (Scalar text)) frame = frame
frame_but pattern variable (Some (Array elements)) frame = with_value frame variable (Array (values_but pattern elements))
frame_but pattern variable (Some (Link level name)) frame = frame
