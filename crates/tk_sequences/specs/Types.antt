-- Meaning. The types of events: their names, and their numbers.
use Rattle.std.specs.Prelude.{ℕ, Bool, true, false, List, [], ◌∷◌, Option, codes}
use Rattle.tk_sequences.specs.Lookup.{looked_up}
use Rattle.tk_sequences.specs.declared.event_type.EventType.{EventType}
use Rattle.tk_sequences.specs.declared.event_type.EventType.TheVariants.{Key, KeyRelease, Button, ButtonRelease, Motion, Enter, Leave, FocusIn, FocusOut, Configure, Map, Unmap, Destroy}

-- the name in a canonical sequence
abbrev pub type_name : EventType → List ℕ
type_name Key = codes "Key"
type_name KeyRelease = codes "KeyRelease"
type_name Button = codes "Button"
type_name ButtonRelease = codes "ButtonRelease"
type_name Motion = codes "Motion"
type_name Enter = codes "Enter"
type_name Leave = codes "Leave"
type_name FocusIn = codes "FocusIn"
type_name FocusOut = codes "FocusOut"
type_name Configure = codes "Configure"
type_name Map = codes "Map"
type_name Unmap = codes "Unmap"
type_name Destroy = codes "Destroy"

-- what `%T` tells
abbrev pub type_number : EventType → ℕ
type_number Key = 2
type_number KeyRelease = 3
type_number Button = 4
type_number ButtonRelease = 5
type_number Motion = 6
type_number Enter = 7
type_number Leave = 8
type_number FocusIn = 9
type_number FocusOut = 10
type_number Configure = 22
type_number Map = 19
type_number Unmap = 18
type_number Destroy = 17

-- the words for types, with two words more for the first of presses
abbrev pub type_words : List (List ℕ × EventType)
type_words =
    (codes "Key", Key)
    ∷ (codes "KeyPress", Key)
    ∷ (codes "KeyRelease", KeyRelease)
    ∷ (codes "Button", Button)
    ∷ (codes "ButtonPress", Button)
    ∷ (codes "ButtonRelease", ButtonRelease)
    ∷ (codes "Motion", Motion)
    ∷ (codes "Enter", Enter)
    ∷ (codes "Leave", Leave)
    ∷ (codes "FocusIn", FocusIn)
    ∷ (codes "FocusOut", FocusOut)
    ∷ (codes "Configure", Configure)
    ∷ (codes "Map", Map)
    ∷ (codes "Unmap", Unmap)
    ∷ (codes "Destroy", Destroy)
    ∷ []

abbrev pub type_named : List ℕ → Option EventType
type_named word = looked_up word type_words

-- the types that have a key as their detail, and those that have a button
abbrev pub is_key_type : EventType → Bool
is_key_type Key = true
is_key_type KeyRelease = true
is_key_type _ = false

abbrev pub is_button_type : EventType → Bool
is_button_type Button = true
is_button_type ButtonRelease = true
is_button_type _ = false
