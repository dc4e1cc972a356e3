-- Meaning. A text by its characters. Places count them.
use Rattle.std.specs.Prelude.{ℕ, max, List, ◌++◌, length, take, drop}
use Rattle.std.specs.Str.{chars, encode_utf8_all}

-- how many characters a text has
abbrev pub size : List ℕ → ℕ
size text = length (chars text)

-- its first n characters, and what stands behind them
abbrev pub front : ℕ → List ℕ → List ℕ
front n text = encode_utf8_all (take n (chars text))

abbrev pub behind : ℕ → List ℕ → List ℕ
behind n text = encode_utf8_all (drop n (chars text))

-- the text with another behind its first n characters
abbrev pub with_inserted : ℕ → List ℕ → List ℕ → List ℕ
with_inserted n new text = front n text ++ (new ++ behind n text)

-- the text without the characters from the first place on and before the last
abbrev pub without_characters : ℕ → ℕ → List ℕ → List ℕ
without_characters first last text = front first text ++ behind (max first last) text
