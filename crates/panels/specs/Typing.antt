-- Meaning. What is typed, as lines of a session.
use Rattle.std.specs.Prelude.{ℕ, ◌==◌, if◌then◌else◌, List, [], ◌∷◌, ◌++◌, map, reverse, codes, Option, Some, None, option_map}
use Rattle.tk_base.specs.Names.{key_named, key_of_character}
use Rattle.tk_route.specs.declared.line.HostLine.{HostLine}
use Rattle.tk_route.specs.declared.line.HostLine.TheVariants.{Keydown, Keyup}

-- the key that types a byte
abbrev pub key_typing : ℕ → Option ℕ
key_typing byte = if byte == 10 then key_named (codes "Return") else if byte == 9 then key_named (codes "Tab") else key_of_character byte

-- a key is pressed and let go, and then these
abbrev pub struck : Option ℕ → Option (List HostLine) → Option (List HostLine)
struck None lines = None
struck (Some key) lines = option_map (λ others. Keydown key ∷ Keyup key ∷ others) lines

-- the keys that type a text; none where no key types one of its bytes
abbrev pub typed : List ℕ → Option (List HostLine)
typed [] = Some []
typed (byte ∷ bytes) = struck (key_typing byte) (typed bytes)

abbrev pub pressing : List ℕ → List HostLine
pressing keys = map (λ key. Keydown key) keys

-- the last of them first
abbrev pub releasing : List ℕ → List HostLine
releasing keys = map (λ key. Keyup key) (reverse keys)

-- a key is struck while others are held
abbrev pub chord : List ℕ → ℕ → List HostLine
chord held key = pressing held ++ Keydown key ∷ Keyup key ∷ releasing held
