-- Steps. What setting a text does in one content and in one frame, with room for so many more variables.
use Rattle.std.specs.Prelude.{◌≡◌, ◌≢◌, ℕ, ◌+◌, ◌<◌, ◌≤◌, List, Option, None, Some, Ok, Err, Result, MatchResult, IfErr, OnOk, OnErr}
use Rattle.tcl_vars.specs.declared.content.Content.{Content}
use Rattle.tcl_text.specs.declared.fault.SetFault.{SetFault}
use Rattle.tcl_text.specs.declared.fault.SetFault.TheVariants.{Full, NoMemory}
use Rattle.tcl_vars.specs.declared.content.Outcome.{Outcome}
use Rattle.tcl_vars.specs.declared.content.Outcome.TheVariants.{Added, Linked}
use Rattle.tcl_vars.specs.Name.{Place}
use Rattle.tcl_vars.specs.Store.{Store, Frame, content_count, frame_count, content_at, content_with, text_at, end_of, with_text_at, link_of}
use Rattle.tcl_vars.specs.Table.{value_at, with_value}

-- the content is no link and becomes this one, which has so many variables more, for which there is room
pub record PutsContent (old : Content) (element : Option (List ℕ)) (value : List ℕ) (room added : ℕ) (new : Content) : Type 0 where
  pub linkless : link_of (Some old) ≡ None
  pub given : content_with (Some old) element value ≡ Ok new
  pub counted : content_count new ≡ content_count old + added
  pub fits : added ≤ room

-- why a content that is no link doesn't take a text
pub record RefusesContent (old : Content) (element : Option (List ℕ)) (value : List ℕ) (room : ℕ) (fault : SetFault) : Type 0 where
  pub linkless : link_of (Some old) ≡ None
  pub why : MatchResult (content_with (Some old) element value)
      (λ new. (fault ≡ Full) × (content_count old + room < content_count new))
      (λ refusal. fault ≡ refusal)

-- what came of setting a text in a content: it is set, or the content is a link and nothing is done
abbrev pub AfterContent : Content → Option (List ℕ) → List ℕ → ℕ → Outcome → Content → Type 0
AfterContent old element value room (Added added) new = PutsContent old element value room added new
AfterContent old element value room (Linked back) new = (link_of (Some old) ≢ None) × (back ≡ value) × (new ≡ old)

-- how many variables a new variable counts: an array comes with its first element
abbrev pub new_count : Option (List ℕ) → ℕ
new_count None = 1
new_count (Some index) = 2

-- the variable of the place is no link, and the frame becomes this one
pub record PutsText (old : Frame) (place : Place) (value : List ℕ) (room added : ℕ) (new : Frame) : Type 0 where
  pub linkless : link_of (value_at old place.variable) ≡ None
  pub content : Content
  pub given : content_with (value_at old place.variable) place.element value ≡ Ok content
  pub frame : new ≡ with_value old place.variable content
  pub counted : frame_count new ≡ frame_count old + added
  pub fits : added ≤ room

-- a frame doesn't take a text since its content doesn't, or for want of room
abbrev pub IsReason : Frame → Place → ℕ → SetFault → Result Content SetFault → Type 0
IsReason old place room fault new =
    MatchResult new
    (λ content. (fault ≡ Full) × (frame_count old + room < frame_count (with_value old place.variable content)))
    (λ refusal. fault ≡ refusal)

-- why a frame doesn't take a text, where the variable of the place is no link
pub record RefusesText (old : Frame) (place : Place) (value : List ℕ) (room : ℕ) (fault : SetFault) : Type 0 where
  pub linkless : link_of (value_at old place.variable) ≡ None
  pub reason : IsReason old place room fault (content_with (value_at old place.variable) place.element value)

-- what came of setting a text in a frame: it is set, or the variable is a link and nothing is done
abbrev pub AfterPut : Frame → Place → List ℕ → ℕ → Outcome → Frame → Type 0
AfterPut old place value room (Added added) new = PutsText old place value room added new
AfterPut old place value room (Linked back) new = (link_of (value_at old place.variable) ≢ None) × (back ≡ value) × (new ≡ old)

-- the variable of the place is no link, and setting its text, or that of its element, gives this store or this fault
pub record Sets (old : Store) (place : Place) (value : List ℕ) (gives : Result Store SetFault) : Type 0 where
  pub linkless : link_of (content_at old place) ≡ None
  pub given : with_text_at old (Some place) value ≡ gives

-- what comes of setting the text to which a place leads: it is read there then, or it is refused and nothing changes
pub record SetsThere (old : Store) (place : Place) (value : List ℕ) (result : Result (Unit {0}) SetFault) (new : Store) : Type 0 where
  pub ok : OnOk result (with_text_at old (end_of old place) value ≡ Ok new)
  pub refused : IfErr result (λ fault. fault ≢ NoMemory → with_text_at old (end_of old place) value ≡ Err fault)
  pub err : OnErr result (new ≡ old)
  pub read : OnOk result (text_at new (end_of new place) ≡ Ok value)
