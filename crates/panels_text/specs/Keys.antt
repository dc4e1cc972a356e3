-- Meaning. Keys by their names, and by those that other systems give them.
use Rattle.std.specs.Prelude.{◌≡◌, ℕ, ◌||◌, if◌then◌else◌, List, [], ◌∷◌, ◌++◌, map, codes, Option, Some, None}
use Rattle.std.specs.Str.{bytes_eq, chars}
use Rattle.panels_text.specs.Words.{serving}
use Rattle.panels_text.specs.declared.keys.TheConstants.{NAMES}
use Rattle.tk_base.specs.Names.{key_of_character, name_of}

-- the name that a key has here, by one that another system gives it
abbrev pub here_for : List ℕ → Option (List ℕ)
here_for name =
    if bytes_eq name (codes "Enter") || bytes_eq name (codes "KP_Enter") then Some (codes "Return")
    else if bytes_eq name (codes "Esc") then Some (codes "Escape")
    else if bytes_eq name (codes "Del") then Some (codes "Delete")
    else if bytes_eq name (codes "PageUp") || bytes_eq name (codes "Page_Up") then Some (codes "Prior")
    else if bytes_eq name (codes "PageDown") || bytes_eq name (codes "Page_Down") then Some (codes "Next")
    else None

abbrev pub key_words : Option ℕ → List ℕ
key_words (Some key) = codes "the name of this key is " ++ name_of key
key_words None = codes "keys type printing ASCII characters alone, and some have names, as Return and space"

abbrev pub OtherwiseTold : Option (List ℕ) → List ℕ → Type 0
OtherwiseTold (Some here) text = text ≡ codes "did you mean " ++ (here ++ codes "?")
OtherwiseTold None text = Unit {0}

-- the character of a text that is one
abbrev pub only_one : List ℕ → Option ℕ
only_one (character ∷ []) = Some character
only_one _ = None

abbrev pub by_character : List ℕ → Option ℕ → List ℕ
by_character name (Some character) = key_words (key_of_character character)
by_character name None = serving name (map (λ other. other.now) NAMES)

abbrev pub by_name : List ℕ → Option (List ℕ) → List ℕ
by_name name (Some here) = codes "did you mean " ++ (here ++ codes "?")
by_name name None = by_character name (only_one (chars name))

-- what serves in place of a name that no key has: its name here, the name of the key that types it, or the nearest of the names
abbrev pub serving_key : List ℕ → List ℕ
serving_key name = by_name name (here_for name)
