-- Meaning. What isn't there of what a script names.
use Rattle.std.specs.Prelude.{◌≡◌, ◌≢◌, ℕ, ◌+◌, ◌⊎◌, Bool, false, not, ◌&&◌, ◌||◌, ◌==◌, if◌then◌else◌, List, [], ◌∷◌, ◌++◌, map, codes, Option, None, Some, slice_get, slice_set}
use Rattle.std.specs.List.Sorted.{IsPermutation, IsSortedByKey, IsStableByKey}
use Rattle.std.specs.Option.{unwrap_or}
use Rattle.std.specs.Ordering.{nat_cmp}
use Rattle.std.specs.Str.{bytes_eq}
use Rattle.std.specs.String.{string_bytes}
use Rattle.tk_session.specs.declared.session.AliasLine.{AliasLine}
use Rattle.tk_session.specs.declared.session.AppBlock.{AppBlock}
use Rattle.panels_report.specs.Trials.{answers_of}
use Rattle.panels_report.specs.declared.linting.Replacement.{Replacement}
use Rattle.panels_report.specs.declared.linting.Wrong.{Wrong}
use Rattle.panels_text.specs.Asking.{asks, has_name, procedures_in, questions_of}
use Rattle.panels_text.specs.Meant.{AreLikely, beside, replacements}
use Rattle.panels_text.specs.Refusals.{Refused, refused_word, refuses_count, words_asked}
use Rattle.panels_text.specs.Scripts.{calls_of}
use Rattle.panels_text.specs.Unread.{misread, unread_of}
use Rattle.panels_text.specs.declared.calls.Unread.{Unread}
use Rattle.panels_text.specs.declared.questions.Question.{Question}
use Rattle.panels_text.specs.declared.questions.Questions.{Questions}

-- the names of the commands that the program serves a panel
abbrev pub served : AppBlock → List (List ℕ)
served panel = map (λ (alias : AliasLine). alias.name) panel.aliases

-- the answer of a number: an empty text where there is none
abbrev pub answer_at : List (List ℕ) → ℕ → List ℕ
answer_at answers number = unwrap_or (slice_get answers number) []

-- ---- other words

-- a word with another in the place of a part; the other one, where it hasn't the part
abbrev pub IsInstead : List ℕ → List ℕ → List ℕ → List ℕ → Type 0
IsInstead part other own new =
    ((before : List ℕ) × (behind : List ℕ) × (own ≡ before ++ (part ++ behind)) × (new ≡ before ++ (other ++ behind)))
    ⊎ (((before behind : List ℕ) → own ≢ before ++ (part ++ behind)) × (new ≡ other))

abbrev pub IsInsteadAt : List (List ℕ) → ℕ → List ℕ → List ℕ → Option (List ℕ) → List (List ℕ) → Type 0
IsInsteadAt words number part other None news = news ≡ words
IsInsteadAt words number part other (Some own) news = (new : List ℕ) × IsInstead part other own new × (news ≡ slice_set words number new)

-- the words of a question, but in that of a number another in the place of a part
abbrev pub AreInstead : List (List ℕ) → Refused → List ℕ → List (List ℕ) → Type 0
AreInstead words refused other news = IsInsteadAt words refused.1 refused.0 other (slice_get words refused.1) news

-- a question with another word: the number of the question that is refused, and the word
pub record IsOther (number : ℕ) (words : List (List ℕ)) (refused : Refused) (word : List ℕ) (replacement : Replacement) : Type 0 where
  pub of_number : replacement.number ≡ number
  pub has_word : replacement.word.now ≡ word
  pub in_place : AreInstead words refused word (words_asked replacement.question)

-- the words that may be meant, each in the place of the one that is refused
abbrev pub AreTried : ℕ → List (List ℕ) → Refused → List (List ℕ) → List Replacement → Type 0
AreTried number words refused [] others = others ≡ []
AreTried number words refused (word ∷ likely) [] = ⊥
AreTried number words refused (word ∷ likely) (other ∷ others) = IsOther number words refused word other × AreTried number words refused likely others

-- the first word of a question
abbrev pub first_asked : Question → List ℕ
first_asked question = unwrap_or (slice_get (words_asked question) 0) []

-- just this word is refused
abbrev pub is_refused : List ℕ → Option Refused → Bool
is_refused word None = false
is_refused word (Some refused) = bytes_eq refused.0 word

module _ (own : List (List ℕ)) where
  abbrev pub AreOthersOf : ℕ → List (List ℕ) → Option Refused → List Replacement → Type 0
  AreOthersOf number words None others = others ≡ []
  AreOthersOf number words (Some refused) others = (likely : List (List ℕ)) × AreLikely refused.0 own likely × AreTried number words refused likely others

  -- .. of the questions from a number on, each by its answer
  abbrev pub AreOthers : List (List ℕ) → ℕ → List Question → List Replacement → Type 0
  AreOthers answers number [] others = others ≡ []
  AreOthers answers number (question ∷ questions) others =
      (here : List Replacement) × (rest : List Replacement) × AreOthersOf number (words_asked question) (refused_word question (answer_at answers number)) here
      × AreOthers answers (number + 1) questions rest × (others ≡ here ++ rest)

  -- a question calls a procedure of the script
  abbrev pub calls_own : Question → Bool
  calls_own question = has_name own (first_asked question)

  -- a word serves that isn't refused itself
  abbrev pub serves : Replacement → List ℕ → Bool
  serves other answer = calls_own other.question || not (is_refused other.word.now (refused_word other.question answer))

  -- the first that serves in a question, where the first of these has this place among the answers
  abbrev pub serving : ℕ → List (List ℕ) → ℕ → List Replacement → Option (List ℕ)
  serving number answers place [] = None
  serving number answers place (other ∷ others) =
      if other.number == number && serves other (answer_at answers place) then Some other.word.now else serving number answers (place + 1) others

-- ---- in words

pub record Told : Type 0 where
  pub line : ℕ
  pub words : List ℕ

abbrev pub told : Wrong → Told
told wrong = record { line = wrong.line; words = string_bytes wrong.words }

-- what is asked, and the answer
abbrev pub front_words : Question → List ℕ → List ℕ
front_words question answer = string_bytes question.told ++ (codes ": " ++ answer)

abbrev pub near_words : List ℕ → Option (List ℕ) → List ℕ
near_words front None = front
near_words front (Some near) = front ++ (codes "; did you mean " ++ (near ++ codes "?"))

-- what to do in its place, or else which word may be meant
abbrev pub instead_words : List ℕ → Option (List ℕ) → Option (List ℕ) → List ℕ
instead_words front (Some words) near = front ++ (codes "; " ++ words)
instead_words front None near = near_words front near

abbrev pub count_told : Question → List ℕ → List Told
count_told question answer = if refuses_count question answer then record { line = question.line; words = front_words question answer } ∷ [] else []

-- .. and behind them what to write in place of the word that is refused
abbrev pub refusal_words : Question → List ℕ → Option (List ℕ) → Option Refused → List ℕ
refusal_words question answer near None = front_words question answer
refusal_words question answer near (Some refused) = instead_words (front_words question answer) (beside refused.0 replacements) near

abbrev pub question_told : Question → List ℕ → Option (List ℕ) → Option Refused → List Told
question_told question answer near None = count_told question answer
question_told question answer near (Some refused) = record { line = question.line; words = refusal_words question answer near (Some refused) } ∷ []

-- what is wrong with the questions from a number on
module _ (own : List (List ℕ)) (answers : List (List ℕ)) (others : List Replacement) (tried : List (List ℕ)) where
  abbrev pub questions_told : ℕ → List Question → List Told
  questions_told number [] = []
  questions_told number (question ∷ questions) =
      question_told question (answer_at answers number) (serving own number tried 0 others) (refused_word question (answer_at answers number)) ++ questions_told (number + 1) questions

abbrev pub unread_told : Unread → Told
unread_told unread = record { line = unread.line; words = string_bytes unread.fault }

-- what is wrong by questions: they are asked, and those that are refused once more with other words
abbrev pub AreWrong : Questions → List Told → Type 0
AreWrong found wrong =
    let own = map string_bytes found.procedures.items in
    let answers = answers_of (map words_asked found.questions.items) in
    (others : List Replacement) × AreOthers own answers 0 found.questions.items others
    × (wrong ≡ questions_told own answers others (answers_of (map (λ (other : Replacement). words_asked other.question) others)) 0 found.questions.items)

-- the same by their lines, and those of one line in their order
pub record IsByLine (all sorted : List Wrong) : Type 0 where
  pub same : IsPermutation all sorted
  pub ascending : IsSortedByKey (λ (wrong : Wrong). wrong.line) nat_cmp sorted
  pub stable : IsStableByKey (λ (wrong : Wrong). wrong.line) nat_cmp all sorted

-- the scripts that can't be read and what is wrong by questions, by their lines
pub record IsWrongBy (found : Questions) (wrong : List Wrong) : Type 0 where
  pub by_questions : List Told
  pub are_wrong : AreWrong found by_questions
  pub all : List Wrong
  pub all_are : map told all ≡ map unread_told found.unread.items ++ by_questions
  pub by_line : IsByLine all wrong

-- what a script has wrong, where the program serves commands of these names
pub record IsLinted (served : List (List ℕ)) (script : List ℕ) (wrong : List Wrong) : Type 0 where
  pub found : Questions
  pub asks_are : map asks found.questions.items ≡ questions_of served script
  pub procedures_are : map string_bytes found.procedures.items ≡ procedures_in served (calls_of script)
  pub unread_are : map misread found.unread.items ≡ unread_of script
  pub is_wrong : IsWrongBy found wrong
