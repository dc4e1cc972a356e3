-- Meaning. The variables of an application: a list of frames, the global one first, each a list of (name, content).
use Rattle.std.specs.Prelude.{Bool, true, false, not, ◌&&◌, is_none, nat_eq, codes, ℕ, zero, suc, ◌+◌, ℤ, nat_le, List, [], ◌∷◌, Option, None, Some, Result, Ok, Err, length, sum_by, is_some, ok_or, option_and_then, slice_index_or, slice_set, if◌then◌else◌}
use Rattle.std.specs.List.{starts_with}
use Rattle.tcl_vars.specs.declared.content.Content.{Content}
use Rattle.tcl_vars.specs.declared.content.Content.TheVariants.{Scalar, Array, Link}
use Rattle.tcl_text.specs.declared.fault.ReadFault.{ReadFault}
use Rattle.tcl_text.specs.declared.fault.ReadFault.TheVariants as reads
use Rattle.tcl_text.specs.declared.fault.SetFault.{SetFault}
use Rattle.tcl_text.specs.declared.fault.SetFault.TheVariants as sets
use Rattle.tcl_text.specs.declared.fault.LinkFault.{LinkFault}
use Rattle.tcl_text.specs.declared.fault.LinkFault.TheVariants as links
use Rattle.tcl_text.specs.declared.fault.UnsetFault.{UnsetFault}
use Rattle.tcl_text.specs.declared.fault.UnsetFault.TheVariants as unsets
use Rattle.tcl_vars.specs.Name.{Place, element_of, place_of}
use Rattle.tcl_vars.specs.Table.{Table, value_at, values_but, with_value, without}
use Rattle.tcl_text.specs.Limits.{most_variables}
use Rattle.tcl_text.specs.Readings.{integer_of}

-- what the names of one procedure's call, or the global ones, stand for
abbrev pub Frame : Type 0
Frame = Table Content

abbrev pub Store : Type 0
Store = List Frame

-- a frame
abbrev pub frame_at : Store → ℕ → Frame
frame_at store frame = slice_index_or store frame []

-- what the variable of a place stands for
abbrev pub content_at : Store → Place → Option Content
content_at store place = value_at (frame_at store place.frame) place.variable

-- the store in which the variable of a place stands for this content
abbrev pub with_content : Store → Place → Content → Store
with_content store place content = slice_set store place.frame (with_value (frame_at store place.frame) place.variable content)

-- Links

-- the number of the frame and the name that a link gives
abbrev pub link_of : Option Content → Option (ℕ × List ℕ)
link_of None = None
link_of (Some (Scalar text)) = None
link_of (Some (Array elements)) = None
link_of (Some (Link frame name)) = Some (frame, name)

-- an element of a place, or the place itself; an element has no elements
abbrev pub indexed : Place → Option (List ℕ) → Option Place
indexed place None = Some place
indexed place (Some index) = if is_some place.element then None else Some (record { frame = place.frame; variable = place.variable; element = Some index })

-- where a place leads whose variable is this link, if any, given where the place leads that the link names
abbrev pub led_by : Place → Option (ℕ × List ℕ) → (Place → Option Place) → Option Place
led_by place None lead = Some place
led_by place (Some link) lead = option_and_then lead (indexed (place_of link.0 link.1) place.element)

-- Where a place leads through at most so many links; nowhere if an element is used as an array. The number is there for the recursion alone: law
-- `links_lead` has the equation without it.
unfoldable pub led : Store → ℕ → Place → Option Place
led store zero place = Some place
led store (suc links) place = led_by place (link_of (content_at store place)) (λ next. led store links next)

-- where a place leads. A link leads to an earlier frame, so there are at most as many in a row as there are frames before
abbrev pub end_of : Store → Place → Option Place
end_of store place = led store place.frame place

-- where a name leads that is used in a frame
abbrev pub place_in : Store → ℕ → List ℕ → Option Place
place_in store frame name = end_of store (place_of frame name)

-- where the element leads that an index gives of the array of a name
abbrev pub element_place_in : Store → ℕ → List ℕ → List ℕ → Option Place
element_place_in store frame name index = option_and_then (end_of store) (indexed (place_of frame name) (Some index))

-- Reading

-- the text of a content, or of its element
abbrev pub text_of : Option Content → Option (List ℕ) → Result (List ℕ) ReadFault
text_of None element = Err reads.NoVariable
text_of (Some (Scalar text)) None = Ok text
text_of (Some (Scalar text)) (Some index) = Err reads.NotArray
text_of (Some (Array elements)) None = Err reads.IsArray
text_of (Some (Array elements)) (Some index) = ok_or (value_at elements index) reads.NoElement
text_of (Some (Link frame name)) element = Err reads.NoVariable

abbrev pub text_at : Store → Option Place → Result (List ℕ) ReadFault
text_at store None = Err reads.NotArray
text_at store (Some place) = text_of (content_at store place) place.element

-- the value of the variable or element that a name means in a frame
unfoldable pub variable_in : Store → ℕ → List ℕ → Result (List ℕ) ReadFault
variable_in store frame name = text_at store (place_in store frame name)

-- the integer that a text is which was read, if it is one
abbrev pub number_read : Result (List ℕ) ReadFault → Option ℤ
number_read (Ok text) = integer_of text
number_read (Err fault) = None

-- the integer that the variable or element is that a name means in a frame, if it is one
abbrev pub number_in : Store → ℕ → List ℕ → Option ℤ
number_in store frame name = number_read (variable_in store frame name)

-- the value of the element that an index gives of the array that a name means
unfoldable pub element_in : Store → ℕ → List ℕ → List ℕ → Result (List ℕ) ReadFault
element_in store frame name index = text_at store (element_place_in store frame name index)

-- whether there is a content, or its element
abbrev pub is_there : Option Content → Option (List ℕ) → Bool
is_there None element = false
is_there (Some (Scalar text)) None = true
is_there (Some (Scalar text)) (Some index) = false
is_there (Some (Array elements)) None = true
is_there (Some (Array elements)) (Some index) = is_some (value_at elements index)
is_there (Some (Link frame name)) element = false

abbrev pub is_there_at : Store → Option Place → Bool
is_there_at store None = false
is_there_at store (Some place) = is_there (content_at store place) place.element

-- whether there is the variable or element that a name means in a frame
unfoldable pub has_variable : Store → ℕ → List ℕ → Bool
has_variable store frame name = is_there_at store (place_in store frame name)

-- whether a place is that of an element; it is none of a variable either where it leads nowhere
abbrev pub is_element_at : Option Place → Bool
is_element_at None = true
is_element_at (Some place) = is_some place.element

-- whether a name means an element in a frame, and so no variable
unfoldable pub is_element_in : Store → ℕ → List ℕ → Bool
is_element_in store frame name = is_element_at (place_in store frame name)

-- the elements of a content that is an array
abbrev pub elements_of : Option Content → Option (List ℕ) → Option (Table (List ℕ))
elements_of None element = None
elements_of (Some (Scalar text)) element = None
elements_of (Some (Array elements)) None = Some elements
elements_of (Some (Array elements)) (Some index) = None
elements_of (Some (Link frame name)) element = None

abbrev pub elements_at : Store → Option Place → Option (Table (List ℕ))
elements_at store None = None
elements_at store (Some place) = elements_of (content_at store place) place.element

-- the elements of the array that a name means in a frame, in the order in which they were made; none if it means no array
unfoldable pub elements_in : Store → ℕ → List ℕ → Option (Table (List ℕ))
elements_in store frame name = elements_at store (place_in store frame name)

-- indices and values in turn
abbrev pub pairs_of : Table (List ℕ) → List (List ℕ)
pairs_of [] = []
pairs_of (e ∷ es) = e.0 ∷ e.1 ∷ pairs_of es

-- How many there are

-- a name counts one, and each element one more
abbrev pub content_count : Content → ℕ
content_count (Scalar text) = 1
content_count (Array elements) = 1 + length elements
content_count (Link frame name) = 1

abbrev pub frame_count : Frame → ℕ
frame_count frame = sum_by (λ e. content_count e.1) frame

abbrev pub variable_count : Store → ℕ
variable_count store = sum_by frame_count store

-- Replacing

-- a content after its text, or that of its element, is set
abbrev pub content_with : Option Content → Option (List ℕ) → List ℕ → Result Content SetFault
content_with None None value = Ok (Scalar value)
content_with None (Some index) value = Ok (Array ((index, value) ∷ []))
content_with (Some (Scalar text)) None value = Ok (Scalar value)
content_with (Some (Scalar text)) (Some index) value = Err sets.NotArray
content_with (Some (Array elements)) None value = Err sets.IsArray
content_with (Some (Array elements)) (Some index) value = Ok (Array (with_value elements index value))
content_with (Some (Link frame name)) element value = Err sets.NotArray

-- a store of at most 4,096 variables
abbrev pub within_variables : {F : Type 0} → F → Store → Result Store F
within_variables full store = if nat_le (variable_count store) most_variables then Ok store else Err full

abbrev pub with_new_content : Store → Place → Result Content SetFault → Result Store SetFault
with_new_content store place (Ok content) = within_variables sets.Full (with_content store place content)
with_new_content store place (Err fault) = Err fault

abbrev pub with_text_at : Store → Option Place → List ℕ → Result Store SetFault
with_text_at store None value = Err sets.NotArray
with_text_at store (Some place) value = with_new_content store place (content_with (content_at store place) place.element value)

-- the store after the variable or element that a name means in a frame is set
unfoldable pub with_variable : Store → ℕ → List ℕ → List ℕ → Result Store SetFault
with_variable store frame name value = with_text_at store (place_in store frame name) value

-- the store after the element that an index gives of the array that a name means is set
unfoldable pub with_element : Store → ℕ → List ℕ → List ℕ → List ℕ → Result Store SetFault
with_element store frame name index value = with_text_at store (element_place_in store frame name index) value

-- whether a content is an array; nothing where it can't become one
abbrev pub array_state : Option Content → Option (List ℕ) → Option Bool
array_state None None = Some false
array_state None (Some index) = None
array_state (Some (Array elements)) None = Some true
array_state (Some (Array elements)) (Some index) = None
array_state (Some (Scalar text)) element = None
array_state (Some (Link frame name)) element = None

-- an array without elements, where there is no variable; an array stays
abbrev pub with_array_of : Store → Place → Option Bool → Result Store SetFault
with_array_of store place None = Err sets.NotArray
with_array_of store place (Some true) = Ok store
with_array_of store place (Some false) = within_variables sets.Full (with_content store place (Array []))

abbrev pub with_array_at : Store → Option Place → Result Store SetFault
with_array_at store None = Err sets.NotArray
with_array_at store (Some place) = with_array_of store place (array_state (content_at store place) place.element)

-- the store in which a name means an array in a frame
unfoldable pub with_array : Store → ℕ → List ℕ → Result Store SetFault
with_array store frame name = with_array_at store (place_in store frame name)

-- Linking

-- a name is plain where it means a variable of the frame that it is used in
abbrev pub is_plain_name : List ℕ → Bool
is_plain_name name = not (starts_with nat_eq name (codes "::")) && is_none (element_of name)

-- a content that is no link
abbrev pub holds_value : Option Content → Bool
holds_value None = false
holds_value (Some (Scalar text)) = true
holds_value (Some (Array elements)) = true
holds_value (Some (Link frame name)) = false

abbrev pub variable_place : ℕ → List ℕ → Place
variable_place frame variable = record { frame = frame; variable = variable; element = None }

-- the store in which a name of a frame is a link to a name in an earlier frame
unfoldable pub with_link : Store → ℕ → List ℕ → ℕ → List ℕ → Result Store LinkFault
with_link store frame name to_frame to_name =
    if not (is_plain_name name) then Err links.BadName
    else if holds_value (content_at store (variable_place frame name)) then Err links.Exists
    else within_variables links.Full (with_content store (variable_place frame name) (Link to_frame to_name))

-- Removing

-- what is left of a content after its text, or that of its element, is unset; nothing of a scalar or a whole array
abbrev pub content_without : Option Content → Option (List ℕ) → Result (Option Content) UnsetFault
content_without None element = Err unsets.NoVariable
content_without (Some (Scalar text)) None = Ok None
content_without (Some (Scalar text)) (Some index) = Err unsets.NotArray
content_without (Some (Array elements)) None = Ok None
content_without (Some (Array elements)) (Some index) =
    if is_some (value_at elements index) then Ok (Some (Array (without elements index))) else Err unsets.NoElement
content_without (Some (Link frame name)) element = Err unsets.NoVariable

-- the frame in which this is left of the content of a variable
abbrev pub frame_with_rest : Frame → List ℕ → Option Content → Frame
frame_with_rest frame variable None = without frame variable
frame_with_rest frame variable (Some content) = with_value frame variable content

abbrev pub with_rest : Store → Place → Result (Option Content) UnsetFault → Result Store UnsetFault
with_rest store place (Ok rest) = Ok (slice_set store place.frame (frame_with_rest (frame_at store place.frame) place.variable rest))
with_rest store place (Err fault) = Err fault

abbrev pub without_text_at : Store → Option Place → Result Store UnsetFault
without_text_at store None = Err unsets.NotArray
without_text_at store (Some place) = with_rest store place (content_without (content_at store place) place.element)

-- the store after the variable or element that a name means in a frame is unset
unfoldable pub without_variable : Store → ℕ → List ℕ → Result Store UnsetFault
without_variable store frame name = without_text_at store (place_in store frame name)

-- an array without the elements whose indices match a pattern; what is no array stays
abbrev pub without_elements_of : Store → List ℕ → Place → Option (Table (List ℕ)) → Store
without_elements_of store pattern place None = store
without_elements_of store pattern place (Some elements) = with_content store place (Array (values_but pattern elements))

abbrev pub without_elements_at : Store → List ℕ → Option Place → Store
without_elements_at store pattern None = store
without_elements_at store pattern (Some place) = without_elements_of store pattern place (elements_at store (Some place))

-- the store after the elements whose indices match a pattern are unset of the array that a name means
unfoldable pub without_elements : Store → ℕ → List ℕ → List ℕ → Store
without_elements store frame name pattern = without_elements_at store pattern (place_in store frame name)
