-- Meaning. What a script names by literal words, as commands to be tried.
use Rattle.std.specs.Prelude.{ℕ, ◌+◌, ◌-◌, Bool, true, false, not, ◌&&◌, ◌||◌, ◌==◌, nat_lt, nat_le, nat_eq, if◌then◌else◌, List, [], ◌∷◌, ◌++◌, map, flat_map, length, drop, take, is_some, codes, Option, Some, None, String, option_map}
use Rattle.std.specs.List.{list_all, list_any, starts_with}
use Rattle.std.specs.Option.{option_to_list, unwrap_or}
use Rattle.std.specs.Str.{bytes_eq, trim}
use Rattle.std.specs.String.{string_bytes}
use Rattle.std.specs.declared.alloc.Global.{Global}
use Rattle.tk_options.specs.Rows.{kind_named}
use Rattle.panels_text.specs.Meant.{beside}
use Rattle.panels_text.specs.Roles.{Texts, text_or_empty, word_at}
use Rattle.panels_text.specs.Scripts.{Said, calls_of}
use Rattle.panels_text.specs.Texts.{behind}
use Rattle.panels_text.specs.declared.questions.Question.{Question}
use Rattle.panels_text.specs.declared.questions.TheConstants.{ANY, FRESH}

-- a command to be tried, with the line and the first words of the one that it is of
pub record Asks : Type 0 where
  pub line : ℕ
  pub words : List (List ℕ)
  pub is_whole : Bool
  pub told : List ℕ

abbrev pub asks : Question → Asks
asks question = record { line = question.line; words = map string_bytes question.words.items; is_whole = question.is_whole; told = string_bytes question.told }

-- ---- a script's own names

abbrev pub makes_windows : List ℕ → Bool
makes_windows name = is_some (kind_named name)

-- the name of a command that this one makes
abbrev pub made_name : Said → Option (List ℕ)
made_name call =
    if bytes_eq (word_at call.words 0) (codes "proc") && not (length (word_at call.words 1) == 0) then Some (word_at call.words 1)
    else if bytes_eq (word_at call.words 0) (codes "rename") then Some (word_at call.words 2)
    else None

-- the path of a window that it makes, and by which command
abbrev pub made_window : Said → Option (List ℕ × List ℕ)
made_window call = if makes_windows (word_at call.words 0) then Some (word_at call.words 1, word_at call.words 0) else None

-- the commands that the program serves, and those that the script makes
abbrev pub procedures_in : List (List ℕ) → List Said → List (List ℕ)
procedures_in served calls = served ++ flat_map (λ (call : Said). option_to_list (made_name call)) calls

abbrev pub window : String Global × String Global → List ℕ × List ℕ
window own = (string_bytes own.0, string_bytes own.1)

abbrev pub windows_in : List Said → List (List ℕ × List ℕ)
windows_in calls = flat_map (λ (call : Said). option_to_list (made_window call)) calls

-- ---- words as they are asked

-- a printing character for which no event's field comes
abbrev pub is_plain : ℕ → Bool
is_plain byte = nat_le 33 byte && (nat_le byte 126 && not (byte == 37))

-- it is asked as it stands
abbrev pub is_simple : List ℕ → Bool
is_simple word = not (length word == 0) && list_all is_plain word

-- a word that has a dot and more is a window's path
abbrev pub is_path : List ℕ → Bool
is_path word = starts_with nat_eq word (codes ".") && nat_lt 1 (length word)

-- one that isn't known is asked as any, and a window as one that is there
abbrev pub asked : List ℕ → List ℕ
asked word = if not (is_simple word) then ANY.now else if is_path word then codes ".frame" else word

-- where it has to be a window's path
abbrev pub asked_window : List ℕ → List ℕ
asked_window word = if bytes_eq (asked word) ANY.now then codes ".frame" else asked word

-- a dash, and then a small letter
abbrev pub is_option : List ℕ → Bool
is_option [] = false
is_option (dash ∷ []) = false
is_option (dash ∷ letter ∷ rest) = dash == 45 && (nat_le 97 letter && nat_le letter 122)

-- ---- options

-- the command takes options with values
abbrev pub takes_pairs : List ℕ → List ℕ → Bool
takes_pairs first second =
    makes_windows first
    || (bytes_eq first (codes "pack") || ((starts_with nat_eq first (codes ".") && bytes_eq second (codes "configure")) || (bytes_eq first (codes "event") && bytes_eq second (codes "generate"))))

-- the number of the first word behind the first that is an option, where they are counted from this one on; behind them where none is
abbrev pub first_option : ℕ → Texts → ℕ
first_option number [] = number
first_option number (word ∷ words) = if nat_lt 0 number && is_option (text_or_empty (Some word)) then number else first_option (number + 1) words

abbrev pub options_at : Texts → ℕ
options_at words = if takes_pairs (word_at words 0) (word_at words 1) then first_option 0 words else length words

-- ---- questions

-- the first two words of a command
abbrev pub told_of : Said → List ℕ
told_of call = trim (word_at call.words 0 ++ (codes " " ++ word_at call.words 1))

abbrev pub question : Said → List (List ℕ) → Bool → Asks
question call words is_whole = record { line = call.line; words = words; is_whole = is_whole; told = told_of call }

-- a value that isn't known isn't asked
abbrev pub asked_value : List ℕ → List (List ℕ)
asked_value value = if is_simple value then asked value ∷ [] else []

-- the question for an option and its value, where the option is literal
abbrev pub pair : Said → List (List ℕ) → List ℕ → List ℕ → List Asks
pair call front option value = if length option == 0 then [] else question call (front ++ option ∷ asked_value value) false ∷ []

-- option by option
abbrev pub pairs : Said → List (List ℕ) → Texts → List Asks
pairs call front [] = []
pairs call front (option ∷ []) = pair call front (text_or_empty (Some option)) []
pairs call front (option ∷ value ∷ rest) = pair call front (text_or_empty (Some option)) (text_or_empty (Some value)) ++ pairs call front rest

-- a word that has to be a window's path, so that what stands behind it is looked at
abbrev pub is_window : List ℕ → ℕ → Bool
is_window name index = bytes_eq name (codes "pack") || (bytes_eq name (codes "event") && index == 2)

module _ (makes : Bool) (first : List ℕ) (count : ℕ) where
  -- a word in front of the options: a window that is made has a path that no other has
  abbrev pub front_word : ℕ → List ℕ → List (List ℕ)
  front_word index word =
      if index == 1 && makes then FRESH.now ∷ []
      else if not (nat_lt 0 index && nat_lt index count) then []
      else if is_window first index then asked_window word ∷ []
      else asked word ∷ []

  abbrev pub front_words : ℕ → Texts → List (List ℕ)
  front_words index [] = []
  front_words index (word ∷ words) = front_word index (text_or_empty (Some word)) ++ front_words (index + 1) words

-- the words in front of the options, where the command is asked by this name
abbrev pub front_of : Said → List ℕ → ℕ → List (List ℕ)
front_of call name count = name ∷ front_words (makes_windows name) (word_at call.words 0) count 0 call.words

-- a question has all words of its command, of which the options begin at this one
abbrev pub is_whole : Said → ℕ → Bool
is_whole call at = nat_le (length call.words) at && not call.is_open

-- the questions of a command that is asked by this name: its options, and what stands in front of them
abbrev pub asked_as : Said → ℕ → List (List ℕ) → List Asks
asked_as call at front = pairs call front (drop at call.words) ++ question call front (is_whole call at) ∷ []

abbrev pub asked_by : Said → List ℕ → List Asks
asked_by call name = asked_as call (options_at call.words) (front_of call name (options_at call.words))

-- the name of a command without its `::`
abbrev pub plain_name : List ℕ → List ℕ
plain_name name = unwrap_or (behind (codes "::") name) name

-- the window that is asked in place of one of a script: one of its kind
abbrev pub window_of : List (List ℕ × List ℕ) → List ℕ → Option (List ℕ)
window_of windows path = if bytes_eq path (codes ".") then Some (codes ".") else option_map (λ command. codes "." ++ command) (beside path windows)

-- the name by which a command is asked
abbrev pub name_asked : List (List ℕ × List ℕ) → List ℕ → Option (List ℕ)
name_asked windows name = if starts_with nat_eq name (codes ".") then window_of windows name else Some name

abbrev pub unasked : List (List ℕ)
unasked = codes "destroy" ∷ codes "rename" ∷ codes "proc" ∷ codes "eval" ∷ codes "uplevel" ∷ codes "while" ∷ codes "for" ∷ []

abbrev pub has_name : List (List ℕ) → List ℕ → Bool
has_name names name = list_any (λ own. bytes_eq own name) names

-- it would end the one that asks, or change its commands
abbrev pub is_unasked : List ℕ → Bool
is_unasked name = list_any (λ own. bytes_eq name own) unasked

abbrev pub asked_or_none : Said → Option (List ℕ) → List Asks
asked_or_none call None = []
asked_or_none call (Some name) = asked_by call name

-- the questions of a command, where the script has these commands and windows
abbrev pub questions_of_call : List (List ℕ) → List (List ℕ × List ℕ) → Said → List Asks
questions_of_call procedures windows call =
    let name = plain_name (word_at call.words 0) in
    if has_name procedures name || (not (is_simple name) || is_unasked name) then [] else asked_or_none call (name_asked windows name)

-- the questions of commands, where these are a script's own or the program's
abbrev pub questions_in : List (List ℕ) → List Said → List Asks
questions_in procedures calls = flat_map (questions_of_call procedures (windows_in calls)) calls

-- what a script asks, where the program serves commands of these names
abbrev pub questions_of : List (List ℕ) → List ℕ → List Asks
questions_of served script = questions_in (procedures_in served (calls_of script)) (calls_of script)
