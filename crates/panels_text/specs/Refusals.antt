-- Meaning. What an answer says of the words of a question.
use Rattle.std.specs.Prelude.{ℕ, ◌+◌, Bool, true, false, ◌&&◌, ◌||◌, ◌==◌, if◌then◌else◌, List, [], ◌∷◌, length, map, codes, nat_eq, nat_le, nat_lt, Option, Some, None}
use Rattle.std.specs.List.{before_first, position_or_len, starts_with}
use Rattle.std.specs.String.{string_bytes}
use Rattle.panels_text.specs.Texts.{behind}
use Rattle.panels_text.specs.declared.questions.Question.{Question}
use Rattle.panels_text.specs.declared.refusals.Refusal.{Refusal}
use Rattle.panels_text.specs.declared.refusals.Refusal.TheVariants.{Word, Count}

-- an answer says that there are too few words or too many, and all were asked
abbrev pub refuses_count : Question → List ℕ → Bool
refuses_count question answer = starts_with nat_eq answer (codes "wrong # args: ") && question.is_whole

abbrev pub is_count : Option Refusal → Bool
is_count (Some Count) = true
is_count _ = false

-- the number of the question's word that has the word which isn't there
abbrev pub index_of : Option Refusal → Option ℕ
index_of (Some (Word word index)) = Some index
index_of _ = None

-- the part stands somewhere in the text
abbrev pub has_part : List ℕ → List ℕ → Bool
has_part part [] = starts_with nat_eq [] part
has_part part (byte ∷ bytes) = starts_with nat_eq (byte ∷ bytes) part || has_part part bytes

-- how the answers begin that quote a word which isn't there
unfoldable pub quoting : List (List ℕ)
quoting =
    codes "invalid command name \"" ∷ codes "bad option \"" ∷ codes "unknown option \"" ∷ codes "ambiguous option \"" ∷ codes "bad value \""
    ∷ codes "bad event type or keysym \"" ∷ codes "bad event sequence \"" ∷ []

-- what stands before the first quote, where there is one
abbrev pub up_to_quote : List ℕ → Option (List ℕ)
up_to_quote text = if nat_lt (position_or_len (λ byte. byte == 34) text) (length text) then Some (before_first (λ byte. byte == 34) text) else None

abbrev pub quoted_or : Option (List ℕ) → Option (List ℕ) → Option (List ℕ)
quoted_or (Some rest) others = up_to_quote rest
quoted_or None others = others

-- the word that an answer quotes behind the first of these beginnings that it has
abbrev pub quoted : List (List ℕ) → List ℕ → Option (List ℕ)
quoted [] answer = None
quoted (front ∷ fronts) answer = quoted_or (behind front answer) (quoted fronts answer)

-- the number of the first of some words, from one on, that has this part; the first of them has this number
abbrev pub number_with : ℕ → ℕ → List ℕ → List (List ℕ) → Option ℕ
number_with number first part [] = None
number_with number first part (word ∷ words) = if nat_le first number && has_part part word then Some number else number_with (number + 1) first part words

abbrev pub words_asked : Question → List (List ℕ)
words_asked question = map string_bytes question.words.items

-- a word of the question, and its number
abbrev pub Refused : Type 0
Refused = List ℕ × ℕ

-- only the first word is a command's name
abbrev pub as_command : List ℕ → Option ℕ → Option Refused
as_command word None = None
as_command word (Some number) = if number == 0 then Some (word, 0) else None

abbrev pub as_word : List ℕ → Option ℕ → Option Refused
as_word word None = None
as_word word (Some number) = Some (word, number)

abbrev pub refused_among : List (List ℕ) → List ℕ → List ℕ → Option Refused
refused_among words answer word =
    if starts_with nat_eq answer (codes "invalid command name ") then as_command word (number_with 0 0 word words) else as_word word (number_with 0 1 word words)

-- a word that isn't empty, and isn't what stands for one that isn't known
abbrev pub refused_as : List (List ℕ) → List ℕ → Option (List ℕ) → Option Refused
refused_as words answer None = None
refused_as words answer (Some word) = if length word == 0 || has_part (codes "lint-any") word then None else refused_among words answer word

-- the word that an answer says isn't there, and the number of the question's word that has it
abbrev pub refused_word : Question → List ℕ → Option Refused
refused_word question answer = if starts_with nat_eq answer (codes "wrong # args: ") then None else refused_as (words_asked question) answer (quoted quoting answer)

abbrev pub word_in : Option Refusal → Option Refused
word_in (Some (Word word index)) = Some (word.now, index)
word_in _ = None
