-- Meaning. Which scripts can't be read, and where they are at fault.
use Rattle.std.specs.Prelude.{ℕ, ◌%◌, ◌==◌, Bool, true, false, if◌then◌else◌, List, [], ◌∷◌, ◌++◌, map, flat_map, codes, Option, Some, None, is_ok, Result, Ok, Err}
use Rattle.std.specs.Fmt.{decimal}
use Rattle.std.specs.List.{suffix_len}
use Rattle.std.specs.String.{string_bytes}
use Rattle.tcl_text.specs.FaultTexts.{parse_text}
use Rattle.tcl_text.specs.declared.fault.ParseFault.{ParseFault}
use Rattle.tcl_text.specs.declared.fault.ParseFault.TheVariants.{MissingBrace, MissingBracket, MissingQuote, MissingParen, TooLong}
use Rattle.tcl_words.specs.Reading.{commands_of}
use Rattle.tcl_words.specs.declared.script.Command.{Command}
use Rattle.panels_text.specs.Indents.{displaced}
use Rattle.panels_text.specs.Places.{later_line, numbered}
use Rattle.panels_text.specs.Scripts.{Passage, passages_of}
use Rattle.panels_text.specs.Texts.{lines_of}
use Rattle.panels_text.specs.declared.calls.Form.{Form}
use Rattle.panels_text.specs.declared.calls.Form.TheVariants.{Commands, Condition, Cases}
use Rattle.panels_text.specs.declared.calls.Unread.{Unread}
use Rattle.panels_text.specs.declared.fault_place.Standing.{Standing}
use Rattle.panels_text.specs.declared.fault_place.Standing.TheVariants.{Faulty, GoesOn, Whole}

-- that a script can't be read: the line that it is told of, and the words
pub record Misread : Type 0 where
  pub line : ℕ
  pub words : List ℕ

abbrev pub misread : Unread → Misread
misread unread = record { line = unread.line; words = string_bytes unread.fault }

-- ---- faults

abbrev pub fault_in : Result (List Command) ParseFault → Option ParseFault
fault_in (Ok commands) = None
fault_in (Err fault) = Some fault

-- why a text is no script; nothing where it is one
unfoldable pub fault_of : List ℕ → Option ParseFault
fault_of text = fault_in (commands_of text)

-- what lacks may come in a later line
abbrev pub may_close : ParseFault → Bool
may_close MissingBrace = true
may_close MissingBracket = true
may_close MissingQuote = true
may_close MissingParen = true
may_close fault = false

-- ---- line by line

-- a line goes on in the next one where it ends with an odd number of backslashes
abbrev pub goes_on : List ℕ → Bool
goes_on line = suffix_len (λ byte. byte == 92) line % 2 == 1

-- how a text stands that has this fault, or none, and whose last line goes on or not
abbrev pub stands : Bool → Option ParseFault → Standing
stands on (Some fault) = Faulty fault
stands on None = if on then GoesOn else Whole

-- a fault that no later line mends
abbrev pub lasting : Standing → Option ParseFault
lasting (Faulty fault) = if may_close fault then None else Some fault
lasting _ = None

-- what the next line is read behind: nothing where a command begins with it, and else the text
abbrev pub begun : Standing → List ℕ → List ℕ
begun Whole text = []
begun _ text = text

-- the text up to a line, behind this one
abbrev pub up_to : List ℕ → List ℕ → List ℕ
up_to text line = (text ++ line) ++ 10 ∷ []

-- how the text up to a line stands
abbrev pub standing_at : List ℕ → List ℕ → Standing
standing_at text line = stands (goes_on line) (fault_of (up_to text line))

-- the same of each line, from behind the last one at which nothing is open; the first of the lines stands behind this text
abbrev pub standing_behind : List ℕ → List (List ℕ) → List Standing
standing_behind text [] = []
standing_behind text (line ∷ lines) = standing_at text line ∷ standing_behind (begun (standing_at text line) (up_to text line)) lines

-- the lines of a script, each with how the text up to it stands, where the first has this number
abbrev pub standing_in : ℕ → List ℕ → List (ℕ × Standing)
standing_in first script = numbered first (standing_behind [] (lines_of script))

-- ---- what is told

abbrev pub first_or : {A : Type 0} → A → List A → A
first_or other [] = other
first_or other (first ∷ rest) = first

abbrev pub last_or : {A : Type 0} → A → List A → A
last_or other [] = other
last_or other (first ∷ rest) = last_or first rest

abbrev pub misread_at : ℕ → ParseFault → Misread
misread_at number fault = record { line = number; words = parse_text fault }

abbrev pub told_at : ℕ → Option ParseFault → List Misread
told_at number None = []
told_at number (Some fault) = misread_at number fault ∷ []

-- the faults that no later line mends, each with its line
abbrev pub lasting_in : List (ℕ × Standing) → List Misread
lasting_in lines = flat_map (λ (line : ℕ × Standing). told_at line.0 (lasting line.1)) lines

abbrev pub begins_behind : ℕ → Standing → List ℕ
begins_behind number Whole = later_line number ∷ []
begins_behind number _ = []

-- the lines with which something begins behind a whole command
abbrev pub beginnings : List (ℕ × Standing) → List ℕ
beginnings lines = flat_map (λ (line : ℕ × Standing). begins_behind line.0 line.1) lines

-- the line of the brace that is never closed, by where lines stand
abbrev pub brace_of : ParseFault → ℕ → List ℕ → Option ℕ
brace_of MissingBrace first script = displaced first script
brace_of fault first script = None

abbrev pub brace_words : Option ℕ → List ℕ
brace_words None = []
brace_words (Some line) = codes "; by where the lines stand it is the brace of line " ++ decimal line

abbrev pub unclosed_words : ParseFault → Option ℕ → List ℕ
unclosed_words fault brace = parse_text fault ++ (codes ": what this command opens is never closed" ++ brace_words brace)

-- what there is to know of a fault that a script has as a whole
abbrev pub most_words : ParseFault → List ℕ
most_words TooLong = codes ": a script has at most 65,536 bytes"
most_words fault = []

abbrev pub whole_words : Option ParseFault → List ℕ
whole_words None = []
whole_words (Some fault) = parse_text fault ++ most_words fault

-- what is told at the end, where the last command begins in this line: that it is never closed, and where nothing is open the script's own fault,
-- at the line with which the script begins
abbrev pub at_end : ℕ → List ℕ → ℕ → Standing → Misread
at_end first script begun_at (Faulty fault) = record { line = begun_at; words = unclosed_words fault (brace_of fault first script) }
at_end first script begun_at _ = record { line = first; words = whole_words (fault_of script) }

-- what is told of lines that stand so, behind a command that begins in this line and stands so: the first fault that no later line mends, and else what
-- their end says
abbrev pub told_of : (ℕ → Standing → Misread) → ℕ → Standing → List (ℕ × Standing) → Misread
told_of ending begun_at last lines = first_or (ending (last_or begun_at (beginnings lines)) (last_or last (map (λ (line : ℕ × Standing). line.1) lines))) (lasting_in lines)

-- what is told of a script that can't be read, whose first line has this number
abbrev pub misread_in : ℕ → List ℕ → Misread
misread_in first script = told_of (at_end first script) first Whole (standing_in first script)

-- ---- scripts in one another

abbrev pub is_readable : List ℕ → Bool
is_readable text = is_ok (commands_of text)

-- a passage that is to be commands, and is no script
abbrev pub unread_as : Form → Passage → List Misread
unread_as Commands outer = if is_readable outer.text then [] else misread_in outer.line outer.text ∷ []
unread_as Condition outer = []
unread_as Cases outer = []

-- what is told of a script and of all scripts in it that can't be read
abbrev pub unread_of : List ℕ → List Misread
unread_of script = flat_map (λ (outer : Passage). unread_as outer.form outer) (passages_of script)
