-- What changes variables leaves the frames where they are, and links lead to earlier ones then, too.
use Rattle.std.proofs.Common.{◌≡◌, ℕ, zero, suc, ◌<◌, Bool, true, false, nat_le, if◌then◌else◌, List, [], ◌∷◌, length, set, length-set, Option, Some, None, Result, Ok, Err, refl, ap, ◌∙◌, subst}
use Rattle.std.specs.Prelude.{not, is_some}
use Rattle.tcl_text.specs.declared.fault.LinkFault.TheVariants as links
use Rattle.tcl_text.specs.declared.fault.SetFault.{SetFault}
use Rattle.tcl_text.specs.declared.fault.SetFault.TheVariants as sets
use Rattle.tcl_text.specs.declared.fault.UnsetFault.{UnsetFault}
use Rattle.tcl_text.specs.declared.fault.UnsetFault.TheVariants as unsets
use Rattle.tcl_vars.specs.declared.content.Content.{Content}
use Rattle.tcl_vars.specs.declared.content.Content.TheVariants.{Scalar, Array, Link}
use Rattle.tcl_vars.specs.Name.{Place}
use Rattle.tcl_vars.specs.Links.{AllBelow, FramesDescend, IsBelow}
use Rattle.tcl_vars.specs.Store.{Frame, Store, array_state, content_at, content_with, content_without, element_place_in, elements_at, frame_at, frame_with_rest, holds_value, is_plain_name, place_in, variable_count, variable_place, with_array, with_array_at, with_array_of, with_content, with_element, with_link, with_new_content, with_rest, with_text_at, with_variable, within_variables, without_elements, without_elements_at, without_elements_of, without_text_at, without_variable}
use Rattle.tcl_vars.specs.Table.{value_at, values_but, with_value, without}
use Rattle.tcl_vars.proofs.BelowLemmas.{AllBelow-with_value, AllBelow-without, content_with-below}

pub record Keeps (old new : Store) : Type 0 where
  pub frames : length new ≡ length old
  pub earlier : FramesDescend old → FramesDescend new

-- where it isn't refused
abbrev pub KeepsIf : {F : Type 0} → Store → Result Store F → Type 0
KeepsIf old (Ok new) = Keeps old new
KeepsIf old (Err fault) = Unit {0}

pub same : (store : Store) → Keeps store store
same store = record { frames = refl; earlier = λ down. down }

pub after : (first mid last : Store) → Keeps first mid → Keeps mid last → Keeps first last
after first mid last one other = record { frames = other.frames ∙ one.frames; earlier = λ down. other.earlier (one.earlier down) }

-- ── one frame ──

set_below : (base : ℕ) (store : Store) (level other : ℕ) (new : Frame) → (level ≡ other → AllBelow base new) → AllBelow base (frame_at store other)
    → AllBelow base (frame_at (set store level new) other)
set_below base [] level other new fits held = held
set_below base (f ∷ fs) zero zero new fits held = fits refl
set_below base (f ∷ fs) zero (suc other) new fits held = held
set_below base (f ∷ fs) (suc level) zero new fits held = held
set_below base (f ∷ fs) (suc level) (suc other) new fits held = set_below base fs level other new (λ is. fits (ap suc is)) held

frame_set : (store : Store) (level : ℕ) (new : Frame) → (AllBelow level (frame_at store level) → AllBelow level new) → Keeps store (set store level new)
frame_set store level new below = record {
  frames = length-set store level new;
  earlier = λ down other. set_below other store level other new (λ is. subst (λ n. AllBelow n new) is (below (down level))) (down other);
}

content_set : (store : Store) (place : Place) (content : Content) → IsBelow place.frame content → Keeps store (with_content store place content)
content_set store place content below =
    frame_set store place.frame (with_value (frame_at store place.frame) place.variable content)
    (λ frame. AllBelow-with_value place.frame (frame_at store place.frame) place.variable content frame below)

within_limit : {F : Type 0} (full : F) (old new : Store) → Keeps old new → KeepsIf old (within_variables full new)
within_limit {F} full old new keeps = by (nat_le (variable_count new) 4096)
  where
    by : (b : Bool) → KeepsIf old (if b then Ok new else Err full)
    by true = keeps
    by false = tt

-- ── setting ──

new_content : (store : Store) (place : Place) (given : Result Content SetFault) → ((content : Content) → given ≡ Ok content → IsBelow place.frame content)
    → KeepsIf store (with_new_content store place given)
new_content store place (Ok content) below = within_limit sets.Full store (with_content store place content) (content_set store place content (below content refl))
new_content store place (Err fault) below = tt

text_set : (store : Store) (place : Option Place) (value : List ℕ) → KeepsIf store (with_text_at store place value)
text_set store None value = tt
text_set store (Some place) value =
    new_content store place (content_with (content_at store place) place.element value)
    (λ content is. content_with-below place.frame (content_at store place) place.element value content is)

pub variable_set : (store : Store) (frame : ℕ) (name value : List ℕ) → KeepsIf store (with_variable store frame name value)
unfolding with_variable
variable_set store frame name value = text_set store (place_in store frame name) value

pub element_set : (store : Store) (frame : ℕ) (name index value : List ℕ) → KeepsIf store (with_element store frame name index value)
unfolding with_element
element_set store frame name index value = text_set store (element_place_in store frame name index) value

array_of : (store : Store) (place : Place) (state : Option Bool) → KeepsIf store (with_array_of store place state)
array_of store place None = tt
array_of store place (Some true) = same store
array_of store place (Some false) = within_limit sets.Full store (with_content store place (Array [])) (content_set store place (Array []) tt)

array_at : (store : Store) (place : Option Place) → KeepsIf store (with_array_at store place)
array_at store None = tt
array_at store (Some place) = array_of store place (array_state (content_at store place) place.element)

pub array_made : (store : Store) (frame : ℕ) (name : List ℕ) → KeepsIf store (with_array store frame name)
unfolding with_array
array_made store frame name = array_at store (place_in store frame name)

-- ── linking to an earlier frame ──

pub linked : (store : Store) (frame : ℕ) (name : List ℕ) (to : ℕ) (to_name : List ℕ) → to < frame → KeepsIf store (with_link store frame name to to_name)
unfolding with_link
linked store frame name to to_name lt = by (not (is_plain_name name)) (holds_value (content_at store place))
  where
    place : Place
    place = variable_place frame name

    new : Store
    new = with_content store place (Link to to_name)

    by : (a b : Bool) → KeepsIf store (if a then Err links.BadName else if b then Err links.Exists else within_variables links.Full new)
    by true b = tt
    by false true = tt
    by false false = within_limit links.Full store new (content_set store place (Link to to_name) lt)

-- ── unsetting ──

element_rest : (level : ℕ) (elements : List (List ℕ × List ℕ)) (index : List ℕ) (content : Content) → content_without (Some (Array elements)) (Some index) ≡ Ok (Some content) → IsBelow level content
element_rest level elements index content is = by (is_some (value_at elements index)) is
  where
    by : (b : Bool) → (if b then Ok (Some (Array (without elements index))) else Err unsets.NoElement) ≡ Ok (Some content) → IsBelow level content
    by true is = let what : Array (without elements index) ≡ content = cc in subst (IsBelow level) what tt
    by false is = absurd (cc)

rest_below : (level : ℕ) (held : Option Content) (element : Option (List ℕ)) (content : Content) → content_without held element ≡ Ok (Some content) → IsBelow level content
rest_below level None element content is = absurd (cc)
rest_below level (Some (Scalar text)) None content is = absurd (cc)
rest_below level (Some (Scalar text)) (Some index) content is = absurd (cc)
rest_below level (Some (Array elements)) None content is = absurd (cc)
rest_below level (Some (Array elements)) (Some index) content is = element_rest level elements index content is
rest_below level (Some (Link to name)) element content is = absurd (cc)

frame_rest : (store : Store) (place : Place) (rest : Option Content) → ((content : Content) → rest ≡ Some content → IsBelow place.frame content)
    → Keeps store (set store place.frame (frame_with_rest (frame_at store place.frame) place.variable rest))
frame_rest store place None below =
    frame_set store place.frame (without (frame_at store place.frame) place.variable) (λ frame. AllBelow-without place.frame (frame_at store place.frame) place.variable frame)
frame_rest store place (Some content) below = content_set store place content (below content refl)

rest_set : (store : Store) (place : Place) (given : Result (Option Content) UnsetFault) → ((content : Content) → given ≡ Ok (Some content) → IsBelow place.frame content)
    → KeepsIf store (with_rest store place given)
rest_set store place (Ok rest) below = frame_rest store place rest (λ content is. below content (ap Ok is))
rest_set store place (Err fault) below = tt

text_unset : (store : Store) (place : Option Place) → KeepsIf store (without_text_at store place)
text_unset store None = tt
text_unset store (Some place) =
    rest_set store place (content_without (content_at store place) place.element) (λ content is. rest_below place.frame (content_at store place) place.element content is)

pub variable_unset : (store : Store) (frame : ℕ) (name : List ℕ) → KeepsIf store (without_variable store frame name)
unfolding without_variable
variable_unset store frame name = text_unset store (place_in store frame name)

elements_of_kept : (store : Store) (pattern : List ℕ) (place : Place) (elements : Option (List (List ℕ × List ℕ))) → Keeps store (without_elements_of store pattern place elements)
elements_of_kept store pattern place None = same store
elements_of_kept store pattern place (Some elements) = content_set store place (Array (values_but pattern elements)) tt

elements_at_kept : (store : Store) (pattern : List ℕ) (place : Option Place) → Keeps store (without_elements_at store pattern place)
elements_at_kept store pattern None = same store
elements_at_kept store pattern (Some place) = elements_of_kept store pattern place (elements_at store (Some place))

pub elements_unset : (store : Store) (frame : ℕ) (name pattern : List ℕ) → Keeps store (without_elements store frame name pattern)
unfolding without_elements
elements_unset store frame name pattern = elements_at_kept store pattern (place_in store frame name)
