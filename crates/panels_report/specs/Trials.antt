-- Meaning. Commands tried in an application of their own, and what it answers.
use Rattle.std.specs.Prelude.{ℕ, ◌+◌, ◌==◌, Bool, nat_le, nat_lt, if◌then◌else◌, List, [], ◌∷◌, ◌++◌, length, codes, replicate, slice_set, Option, None, Some, option_map, option_and_then}
use Rattle.std.specs.Fmt.{decimal}
use Rattle.std.specs.List.{after_first, list_all}
use Rattle.tcl_text.specs.Limits.{most_bytes}
use Rattle.tcl_text.specs.Readings.{list_form}
use Rattle.tk_session.specs.Session.{Plan}
use Rattle.tk_session.specs.declared.session.AppBlock.{AppBlock}
use Rattle.tkhost.specs.Sections.{program_sections}
use Rattle.panels.specs.Verdict.{sections_in}
use Rattle.panels_film.specs.Numbers.{number_in}
use Rattle.panels_report.specs.declared.trials.TheConstants.{WINDOWS}
use Rattle.panels_text.specs.Texts.{behind, first_word, lines_of, text_of}

-- ---- commands

abbrev pub is_short : List ℕ → Bool
is_short text = nat_le (length text) most_bytes

abbrev pub if_short : List ℕ → Option (List ℕ)
if_short text = if is_short text then Some text else None

abbrev pub texts_in : List (List ℕ) → Option (List (List ℕ))
texts_in words = if list_all is_short words then Some words else None

-- a list as a word; texts as a list, and that as a word: nothing where a text on the way passes the limit
abbrev pub element_of : Option (List ℕ) → Option (List ℕ)
element_of None = None
element_of (Some list) = if_short (list_form (list ∷ []))

abbrev pub list_of : Option (List (List ℕ)) → Option (List ℕ)
list_of None = None
list_of (Some texts) = element_of (if_short (list_form texts))

abbrev pub listed : List (List ℕ) → Option (List ℕ)
listed words = list_of (texts_in words)

-- the command that tries words, by their number
abbrev pub trial_line : ℕ → List ℕ → List ℕ
trial_line number word = codes "lint-try " ++ (decimal number ++ (codes " " ++ (word ++ codes "\n")))

abbrev pub line_or_none : ℕ → Option (List ℕ) → List ℕ
line_or_none number None = []
line_or_none number (Some word) = trial_line number word

abbrev pub trial : ℕ → List (List ℕ) → List ℕ
trial number words = line_or_none number (listed words)

-- ---- what an application answers

-- the application that runs a script, with the session that it is
abbrev pub asked : List ℕ → AppBlock
asked script = record { name = codes "lint"; rect = record { x = 0; y = 0; width = 200; height = 200 }; budget = record { total = 10000000; refill = 0 }; aliases = []; script = script }

abbrev pub asked_plan : List ℕ → Plan
asked_plan script = record { apps = asked script ∷ []; events = []; end = 0 }

-- what stands behind the first blank
abbrev pub rest_of : List ℕ → List ℕ
rest_of text = after_first (λ byte. byte == 32) text

-- the number and the answer behind the beginning of a line that answers
abbrev pub answer_at : List ℕ → Option (ℕ × List ℕ)
answer_at rest = option_map (λ number. (number, rest_of rest)) (number_in (first_word rest))

abbrev pub answer_in : List ℕ → Option (ℕ × List ℕ)
answer_in line = option_and_then answer_at (behind (codes "out 0 lint ") line)

abbrev pub with_answer : Option (ℕ × List ℕ) → List (List ℕ) → List (List ℕ)
with_answer None answers = answers
with_answer (Some answer) answers = slice_set answers answer.0 answer.1

abbrev pub with_lines : List (List ℕ) → List (List ℕ) → List (List ℕ)
with_lines [] answers = answers
with_lines (line ∷ lines) answers = with_lines lines (with_answer (answer_in line) answers)

abbrev pub with_sections : List (List ℕ) → List (List ℕ) → List (List ℕ)
with_sections [] answers = answers
with_sections (section ∷ sections) answers = with_sections sections (with_lines (lines_of (text_of section)) answers)

abbrev pub with_script : Option (List ℕ) → List (List ℕ) → List (List ℕ)
with_script None answers = answers
with_script (Some script) answers = with_sections (sections_in (program_sections (asked_plan script))) answers

-- commands are run behind those that make the windows, and answer by their numbers
abbrev pub with_commands : List ℕ → List (List ℕ) → List (List ℕ)
with_commands commands answers = with_script (if_short (WINDOWS.now ++ commands)) answers

-- those that wait are run where they pass 60,000 bytes
abbrev pub are_many : List ℕ → Bool
are_many commands = nat_lt 60000 (length commands)

abbrev pub waiting : List ℕ → List ℕ
waiting commands = if are_many commands then [] else commands

abbrev pub with_waiting : List ℕ → List (List ℕ) → List (List ℕ)
with_waiting commands answers = if are_many commands then with_commands commands answers else answers

-- commands from a number on behind those that wait, which are run at the end
abbrev pub answers_from : ℕ → List ℕ → List (List (List ℕ)) → List (List ℕ) → List (List ℕ)
answers_from number commands [] answers = with_commands commands answers
answers_from number commands (words ∷ asks) answers = answers_from (number + 1) (waiting commands ++ trial number words) asks (with_waiting commands answers)

-- what each of these commands answers
abbrev pub answers_of : List (List (List ℕ)) → List (List ℕ)
answers_of asks = answers_from 0 [] asks (replicate (length asks) [])
