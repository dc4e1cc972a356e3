-- Meaning. Keys by their names and by the characters that they type. A key is its place in the list of names.
use Rattle.std.specs.Prelude.{◌≡◌, map, option_and_then, ℕ, ◌+◌, ◌-◌, ◌==◌, ◌&&◌, Bool, nat_le, if◌then◌else◌, List, [], ◌∷◌, ◌++◌, Option, Some, None, position, slice_get, unwrap_or, codes}
use Rattle.std.specs.List.{list_any, slice_split}
use Rattle.std.specs.Str.{bytes_eq}

-- names that stand in a text, a blank between each two
abbrev pub names_in : List ℕ → List (List ℕ)
names_in text = slice_split (λ byte. byte == 32) text

-- the names of the keys (keysyms(n)), in their order
unfoldable pub all_names : List (List ℕ)
all_names =
    names_in (codes "space exclam quotedbl numbersign dollar percent ampersand apostrophe parenleft parenright asterisk plus comma minus period slash")
    ++ names_in (codes "0 1 2 3 4 5 6 7 8 9")
    ++ names_in (codes "colon semicolon less equal greater question at")
    ++ names_in (codes "A B C D E F G H I J K L M N O P Q R S T U V W X Y Z")
    ++ names_in (codes "bracketleft backslash bracketright asciicircum underscore grave")
    ++ names_in (codes "a b c d e f g h i j k l m n o p q r s t u v w x y z")
    ++ names_in (codes "braceleft bar braceright asciitilde")
    ++ names_in (codes "Return Tab BackSpace Escape Delete")
    ++ names_in (codes "Left Right Up Down Home End Prior Next Insert")
    ++ names_in (codes "F1 F2 F3 F4 F5 F6 F7 F8 F9 F10 F11 F12")
    ++ names_in (codes "Shift_L Shift_R Control_L Control_R Alt_L Alt_R Caps_Lock")

-- the name of a key
abbrev pub name_of : ℕ → List ℕ
name_of key = unwrap_or (slice_get all_names key) []

-- the key of a name
abbrev pub key_named : List ℕ → Option ℕ
key_named name = position (λ known. bytes_eq known name) all_names

-- a printing ASCII character stands in the list where it stands in ASCII, the blank first
abbrev pub key_of_character : ℕ → Option ℕ
key_of_character character = if nat_le 32 character && nat_le character 126 then Some (character - 32) else None

-- what Return, Tab, BackSpace, Escape and Delete type; the keys behind them type nothing
abbrev pub control_characters : List ℕ
control_characters = 13 ∷ 9 ∷ 8 ∷ 27 ∷ 127 ∷ []

abbrev pub character_of : ℕ → Option ℕ
character_of key = if nat_le key 94 then Some (key + 32) else slice_get control_characters (key - 95)

-- the keys that modify others: which names these numbers have says the law `modifiers_have_their_names`
abbrev pub shift_left : ℕ
shift_left = 121

abbrev pub shift_right : ℕ
shift_right = 122

abbrev pub control_left : ℕ
control_left = 123

abbrev pub control_right : ℕ
control_right = 124

abbrev pub alt_left : ℕ
alt_left = 125

abbrev pub alt_right : ℕ
alt_right = 126

abbrev pub caps_lock : ℕ
caps_lock = 127

-- the keys that are held while others are pressed, or change what they mean
abbrev pub is_modifier : ℕ → Bool
is_modifier key = list_any (λ other. other == key) (shift_left ∷ shift_right ∷ control_left ∷ control_right ∷ alt_left ∷ alt_right ∷ caps_lock ∷ [])

-- the keys of these names type these characters, one after another
abbrev pub AreTyped : List ℕ → List ℕ → Type 0
AreTyped names characters = map (λ name. option_and_then character_of (key_named name)) (names_in names) ≡ map (λ character. Some character) characters

-- and the keys of these type nothing
abbrev pub AreSilent : List ℕ → Type 0
AreSilent names = map (λ name. option_and_then character_of (key_named name)) (names_in names) ≡ map (λ name. None) (names_in names)
