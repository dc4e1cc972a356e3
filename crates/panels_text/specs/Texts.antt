-- Meaning. Texts, their lines and their words.
use Rattle.std.specs.Prelude.{ℕ, ◌-◌, Bool, not, ◌==◌, if◌then◌else◌, List, [], ◌∷◌, ◌++◌, map, filter, length, take, drop, Option, Some, None, nat_eq, unwrap_or}
use Rattle.std.specs.List.{before_first, ends_with, list_any, slice_split, starts_with}
use Rattle.std.specs.Str.{bytes_eq, is_utf8}

-- bytes that are UTF-8 are a text, and others are none
abbrev pub text_of : List ℕ → List ℕ
text_of bytes = if is_utf8 bytes then bytes else []

-- the lines of a text: what stands before, between and behind its line feeds
abbrev pub lines_of : List ℕ → List (List ℕ)
lines_of text = slice_split (λ byte. byte == 10) text

-- the line is one of these
abbrev pub has_line : List (List ℕ) → List ℕ → Bool
has_line lines line = list_any (λ own. bytes_eq own line) lines

-- the lines of a text that another hasn't, in their order
abbrev pub lines_without : List ℕ → List ℕ → List (List ℕ)
lines_without text other = filter (λ line. not (has_line (lines_of other) line)) (lines_of text)

-- what stands before the first blank: all where there is none
abbrev pub first_word : List ℕ → List ℕ
first_word line = before_first (λ byte. byte == 32) line

abbrev pub first_line : List ℕ → List ℕ
first_line text = before_first (λ byte. byte == 10) text

-- what stands behind a front, where the text begins with it
abbrev pub behind : List ℕ → List ℕ → Option (List ℕ)
behind front text = if starts_with nat_eq text front then Some (drop (length front) text) else None

-- what stands before an end, where the text ends with it
abbrev pub before : List ℕ → List ℕ → Option (List ℕ)
before end text = if ends_with nat_eq text end then Some (take (length text - length end) text) else None

-- texts, each behind a separator
abbrev pub behind_each : List ℕ → List (List ℕ) → List ℕ
behind_each separator [] = []
behind_each separator (text ∷ texts) = separator ++ (text ++ behind_each separator texts)

-- texts with a separator between neighbours
abbrev pub joined : List ℕ → List (List ℕ) → List ℕ
joined separator [] = []
joined separator (text ∷ texts) = text ++ behind_each separator texts

abbrev pub has_byte : ℕ → List ℕ → Bool
has_byte byte text = list_any (λ own. own == byte) text

-- the folder of a file, up to its slash: nothing where the file's name has none
abbrev pub folder : List ℕ → List ℕ
folder [] = []
folder (byte ∷ bytes) = if has_byte 47 (byte ∷ bytes) then byte ∷ folder bytes else []

-- the byte order mark, in UTF-8
abbrev pub byte_order_mark : List ℕ
byte_order_mark = 239 ∷ 187 ∷ 191 ∷ []

-- a line without the carriage return that it ends with
abbrev pub plain_line : List ℕ → List ℕ
plain_line line = unwrap_or (before (13 ∷ []) line) line

abbrev pub without_mark : List ℕ → List ℕ
without_mark file = unwrap_or (behind byte_order_mark file) file

abbrev pub without_last_break : List ℕ → List ℕ
without_last_break text = unwrap_or (before (10 ∷ []) text) text

-- the script of a file: without a byte order mark and the last line's end, with a line feed alone between two lines
abbrev pub plain_script : List ℕ → List ℕ
plain_script file = joined (10 ∷ []) (map plain_line (lines_of (without_last_break (without_mark file))))
