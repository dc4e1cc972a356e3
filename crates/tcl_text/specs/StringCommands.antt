-- Meaning. The commands of string(n), and concat(n).
use Rattle.std.specs.Prelude.{ℕ, suc, not, ◌==◌, nat_eq, if◌then◌else◌, List, [], ◌∷◌, length, take, map, filter, Option, Some, None, option_map, replicate, codes}
use Rattle.std.specs.List.{starts_with, concat, join_with_byte}
use Rattle.std.specs.Str.{chars, encode_utf8_all, bytes_eq, str_to_ascii_lowercase, str_to_ascii_uppercase}
use Rattle.std.specs.Fmt.{decimal}
use Rattle.std.specs.Ordering.{nat_cmp}
use Rattle.std.specs.Cmp.Lexicographic.{slice_cmp}
use Rattle.std.specs.declared.cmp.Ordering.{Ordering}
use Rattle.std.specs.declared.cmp.Ordering.TheVariants.{Less, Equal, Greater}
use Rattle.tcl_text.specs.Bytes.{space}
use Rattle.tcl_text.specs.Backslash.{is_white}
use Rattle.tcl_text.specs.Readings.{skip_white}
use Rattle.tcl_text.specs.Glob.{glob_matches}
use Rattle.tcl_text.specs.Answers.{Answer, ◌>>=◌, answers, wrong_args, bad_option, integer_in, truth, place}
use Rattle.tcl_text.specs.Indices.{index_in, from_zero, part}

-- the text without white space at its end, and at both ends
abbrev pub before_end : ℕ → List ℕ → List ℕ
before_end c [] = if is_white c then [] else c ∷ []
before_end c (d ∷ ds) = c ∷ d ∷ ds

abbrev pub drop_white_end : List ℕ → List ℕ
drop_white_end [] = []
drop_white_end (c ∷ cs) = before_end c (drop_white_end cs)

abbrev pub trimmed : List ℕ → List ℕ
trimmed text = drop_white_end (skip_white text)

-- the byte at which the needle first stands in the text
abbrev pub first_place : List ℕ → List ℕ → Option ℕ
first_place needle [] = if starts_with nat_eq [] needle then Some 0 else None
first_place needle (c ∷ cs) = if starts_with nat_eq (c ∷ cs) needle then Some 0 else option_map suc (first_place needle cs)

-- how many characters stand before the needle, which isn't empty
abbrev pub characters_before : List ℕ → List ℕ → Option ℕ
characters_before [] text = None
characters_before (c ∷ cs) text = option_map (λ k. length (chars (take k text))) (first_place (c ∷ cs) text)

-- -1, 0 or 1
abbrev pub sign_of : Ordering → List ℕ
sign_of Less = codes "-1"
sign_of Equal = codes "0"
sign_of Greater = codes "1"

-- each command: its words after `string NAME` give the answer
abbrev pub string_length : List (List ℕ) → Answer
string_length (text ∷ []) = answers (decimal (length (chars text)))
string_length _ = wrong_args (codes "string length s")

abbrev pub string_index : List (List ℕ) → Answer
string_index (text ∷ index ∷ []) = do
  i ← index_in index
  answers (encode_utf8_all (part i i (chars text)))
string_index _ = wrong_args (codes "string index s i")

abbrev pub string_range : List (List ℕ) → Answer
string_range (text ∷ first ∷ last ∷ []) = do
  i ← index_in first
  j ← index_in last
  answers (encode_utf8_all (part i j (chars text)))
string_range _ = wrong_args (codes "string range s first last")

abbrev pub string_compare : List (List ℕ) → Answer
string_compare (a ∷ b ∷ []) = answers (sign_of (slice_cmp nat_cmp a b))
string_compare _ = wrong_args (codes "string compare a b")

abbrev pub string_equal : List (List ℕ) → Answer
string_equal (a ∷ b ∷ []) = truth (bytes_eq a b)
string_equal _ = wrong_args (codes "string equal a b")

abbrev pub string_match : List (List ℕ) → Answer
string_match (pattern ∷ text ∷ []) = truth (glob_matches (chars pattern) (chars text))
string_match _ = wrong_args (codes "string match pattern s")

abbrev pub string_first : List (List ℕ) → Answer
string_first (needle ∷ text ∷ []) = place (characters_before needle text)
string_first _ = wrong_args (codes "string first needle s")

abbrev pub string_repeat : List (List ℕ) → Answer
string_repeat (text ∷ count ∷ []) = do
  n ← integer_in count
  answers (concat (replicate (from_zero n) text))
string_repeat _ = wrong_args (codes "string repeat s n")

abbrev pub string_tolower : List (List ℕ) → Answer
string_tolower (text ∷ []) = answers (str_to_ascii_lowercase text)
string_tolower _ = wrong_args (codes "string tolower s")

abbrev pub string_toupper : List (List ℕ) → Answer
string_toupper (text ∷ []) = answers (str_to_ascii_uppercase text)
string_toupper _ = wrong_args (codes "string toupper s")

abbrev pub string_trim : List (List ℕ) → Answer
string_trim (text ∷ []) = answers (trimmed text)
string_trim _ = wrong_args (codes "string trim s")

-- the command of this name answers, or there is none
unfoldable pub string_named : List ℕ → List (List ℕ) → Answer
string_named name words =
    if bytes_eq name (codes "length") then string_length words
    else (if bytes_eq name (codes "index") then string_index words
    else (if bytes_eq name (codes "range") then string_range words
    else (if bytes_eq name (codes "compare") then string_compare words
    else (if bytes_eq name (codes "equal") then string_equal words
    else (if bytes_eq name (codes "match") then string_match words
    else (if bytes_eq name (codes "first") then string_first words
    else (if bytes_eq name (codes "repeat") then string_repeat words
    else (if bytes_eq name (codes "tolower") then string_tolower words
    else (if bytes_eq name (codes "toupper") then string_toupper words
    else (if bytes_eq name (codes "trim") then string_trim words
    else bad_option name))))))))))

abbrev pub string_words : List (List ℕ) → Answer
string_words [] = wrong_args (codes "string option ?arg ..?")
string_words (name ∷ words) = string_named name words

-- the words without white space around them, those that aren't empty, with a blank between each two
abbrev pub concatenated : List (List ℕ) → List ℕ
concatenated words = join_with_byte space (filter (λ word. not (length word == 0)) (map trimmed words))

abbrev pub concat_words : List (List ℕ) → Answer
concat_words words = answers (concatenated words)
