-- Meaning. A script with the fields of an event put in where `%` and a character stand for them.
use Rattle.std.specs.Prelude.{ℕ, ℤ, ◌==◌, if◌then◌else◌, List, [], ◌∷◌, ◌++◌, Option, Some, None, option_map, encode_utf8, codes}
use Rattle.std.specs.Fmt.{decimal, signed_decimal}
use Rattle.std.specs.Map.{lookup}
use Rattle.std.specs.Str.{byte}
use Rattle.tcl_text.specs.Readings.{list_form}
use Rattle.tk_sequences.specs.declared.event.Event.{Event}
use Rattle.tk_sequences.specs.declared.event.EventKind.{EventKind}
use Rattle.tk_sequences.specs.declared.event.EventKind.TheVariants.{Physical, Virtual}
use Rattle.tk_base.specs.Names.{name_of, character_of}
use Rattle.tk_dispatch.specs.declared.field.Field.{Field}
use Rattle.tk_dispatch.specs.declared.field.Field.TheVariants.{Path, TypeNumber, Moment, State, X, Y, RootX, RootY, Button, Key, KeyText, Width, Height, Detail}
use Rattle.tk_sequences.specs.Types.{type_number}

-- a text as an element of a list
abbrev pub element : List ℕ → List ℕ
element text = list_form (text ∷ [])

-- ---- the fields

-- two question marks for what an event lacks
abbrev pub or_lacking : Option (List ℕ) → List ℕ
or_lacking (Some text) = text
or_lacking None = codes "??"

abbrev pub text_shown : Option (List ℕ) → List ℕ
text_shown text = or_lacking (option_map element text)

abbrev pub number_shown : Option ℕ → List ℕ
number_shown number = or_lacking (option_map decimal number)

abbrev pub place_shown : Option ℤ → List ℕ
place_shown number = or_lacking (option_map signed_decimal number)

-- the number of an event's type; virtual events have none
abbrev pub number_of_kind : EventKind → Option ℕ
number_of_kind (Physical kind) = Some (type_number kind)
number_of_kind (Virtual name) = None

-- what a key types: one character, or nothing
abbrev pub typed_by : Option ℕ → List ℕ
typed_by (Some character) = encode_utf8 character
typed_by None = []

abbrev pub key_text : ℕ → List ℕ
key_text key = typed_by (character_of key)

-- the characters that stand for fields
abbrev pub field_characters : List (ℕ × Field)
field_characters =
    (byte "W", Path)
    ∷ (byte "T", TypeNumber)
    ∷ (byte "t", Moment)
    ∷ (byte "s", State)
    ∷ (byte "x", X)
    ∷ (byte "y", Y)
    ∷ (byte "X", RootX)
    ∷ (byte "Y", RootY)
    ∷ (byte "b", Button)
    ∷ (byte "K", Key)
    ∷ (byte "A", KeyText)
    ∷ (byte "w", Width)
    ∷ (byte "h", Height)
    ∷ (byte "d", Detail)
    ∷ []

abbrev pub field_named : ℕ → Option Field
field_named character = lookup (λ known. character == known) field_characters

abbrev pub field_shown : Event → Field → List ℕ
field_shown event Path = element event.path
field_shown event TypeNumber = number_shown (number_of_kind event.kind)
field_shown event Moment = decimal event.moment
field_shown event State = number_shown event.state
field_shown event X = place_shown event.x
field_shown event Y = place_shown event.y
field_shown event RootX = place_shown event.root_x
field_shown event RootY = place_shown event.root_y
field_shown event Button = number_shown event.button
field_shown event Key = text_shown (option_map name_of event.key)
field_shown event KeyText = text_shown (option_map key_text event.key)
field_shown event Width = number_shown event.width
field_shown event Height = number_shown event.height
field_shown event Detail = text_shown event.detail

-- what `%` and a character stand for: a field, or the character where it stands for none, as `%%` does
abbrev pub shown_or_itself : Event → ℕ → Option Field → List ℕ
shown_or_itself event character (Some field) = field_shown event field
shown_or_itself event character None = character ∷ []

unfoldable pub replacement : Event → ℕ → List ℕ
replacement event character = shown_or_itself event character (field_named character)

-- ---- the script

abbrev pub percent : ℕ
percent = byte "%"

-- a script with what stands for each `%` and the character behind it; a `%` at the end stays
unfoldable pub substituted : Event → List ℕ → List ℕ
substituted event [] = []
substituted event (first ∷ []) = first ∷ []
substituted event (first ∷ character ∷ bytes) = if first == percent then replacement event character ++ substituted event bytes else first ∷ substituted event (character ∷ bytes)
