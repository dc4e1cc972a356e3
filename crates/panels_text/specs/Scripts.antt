-- Meaning. The commands of a script, those of its bodies too, as they are written.
use Rattle.std.specs.Prelude.{ℕ, zero, suc, ◌+◌, ◌-◌, ◌^◌, ◌%◌, min, Bool, true, false, not, ◌&&◌, ◌||◌, ◌==◌, nat_lt, if◌then◌else◌, List, [], ◌∷◌, ◌++◌, map, length, take, drop, reverse, flat_map, codes, Option, Some, None, Result, Ok, Err}
use Rattle.std.specs.List.{list_any}
use Rattle.std.specs.Option.{unwrap_or}
use Rattle.std.specs.Str.{bytes_eq}
use Rattle.tcl_text.specs.declared.fault.ParseFault.{ParseFault}
use Rattle.tcl_words.specs.Reading.{commands_of}
use Rattle.tcl_words.specs.declared.script.Command.{Command}
use Rattle.tcl_words.specs.declared.script.Piece.{Piece}
use Rattle.tcl_words.specs.declared.script.Piece.TheVariants.{Literal, Variable, Element, Bracket}
use Rattle.tcl_words.specs.declared.script.Word.{Word}
use Rattle.tcl_words.specs.declared.script.WordForm.{WordForm}
use Rattle.tcl_words.specs.declared.script.WordForm.TheVariants.{Braced, Quoted, Bare}
use Rattle.panels_text.specs.Places.{count_breaks}
use Rattle.panels_text.specs.Roles.{Texts, role_of, texts_of}
use Rattle.panels_text.specs.declared.brackets.Brackets.{Brackets}
use Rattle.panels_text.specs.declared.calls.Body.{Body}
use Rattle.panels_text.specs.declared.calls.Call.{Call}
use Rattle.panels_text.specs.declared.calls.Form.{Form}
use Rattle.panels_text.specs.declared.calls.Form.TheVariants.{Commands, Condition, Cases}
use Rattle.panels_text.specs.declared.roles.Role.{Role}
use Rattle.panels_text.specs.declared.roles.Role.TheVariants as role

-- a text that is read so, and the line in which it begins
pub record Passage : Type 0 where
  pub text : List ℕ
  pub line : ℕ
  pub form : Form

abbrev pub passage : Form → ℕ → List ℕ → Passage
passage form line text = record { text = text; line = line; form = form }

abbrev pub passage_of : Body → Passage
passage_of body = passage body.form body.line body.text.items

-- a command: its line, the texts of its words, and whether one of them is a list whose elements are words
pub record Said : Type 0 where
  pub line : ℕ
  pub words : Texts
  pub is_open : Bool

abbrev pub said : Call → Said
said call = record { line = call.line; words = texts_of call.words.items; is_open = call.is_open }

-- the commands of a text that is a script
abbrev pub commands_or_none : Result (List Command) ParseFault → List Command
commands_or_none (Ok commands) = commands
commands_or_none (Err fault) = []

abbrev pub commands_in : List ℕ → List Command
commands_in text = commands_or_none (commands_of text)

-- ---- words

-- what stands between two places
abbrev pub between : List ℕ → ℕ → ℕ → List ℕ
between text from to = drop from (take to text)

-- the line of a place in a text whose first line has this number, as far as numbers go
abbrev pub line_of : ℕ → List ℕ → ℕ → ℕ
line_of first text at = min (first + count_breaks (take at text)) (2 ^ 64 - 1)

abbrev pub piece_text : Piece → Option (List ℕ)
piece_text (Literal text) = Some text
piece_text (Variable name) = None
piece_text (Element name index) = None
piece_text (Bracket script) = None

abbrev pub only_literal : List Piece → Option (List ℕ)
only_literal [] = Some []
only_literal (piece ∷ []) = piece_text piece
only_literal (piece ∷ other ∷ pieces) = None

-- the text of a word that is literal
abbrev pub literal : Word → Option (List ℕ)
literal word = if word.expand then None else only_literal word.pieces

abbrev pub without_ends : List ℕ → List ℕ
without_ends text = between text 1 (length text - 1)

-- the text of a word as it stands, between its braces
abbrev pub written_as : WordForm → Option (List ℕ) → List ℕ → List ℕ
written_as Braced text source = without_ends source
written_as Quoted text source = unwrap_or text source
written_as Bare text source = unwrap_or text source

abbrev pub source_of : List ℕ → Word → List ℕ
source_of text word = between text word.span.start word.span.end

abbrev pub written : List ℕ → Word → List ℕ
written text word = written_as word.form (literal word) (source_of text word)

-- the plus with which a binding is added
abbrev pub without_plus : List ℕ → List ℕ
without_plus [] = []
without_plus (byte ∷ text) = if byte == 43 then text else byte ∷ text

-- ---- brackets

-- how far a text is read: how many brackets are open, what stands behind the outermost, the line of the next byte and that of the outermost bracket
pub record Depth : Type 0 where
  pub depth : ℕ
  pub inside : List ℕ
  pub line : ℕ
  pub opened_at : ℕ
  pub is_escaped : Bool

abbrev pub depth_of : Brackets → Depth
depth_of brackets = record {
  depth = brackets.depth;
  inside = brackets.inside.items;
  line = brackets.line;
  opened_at = brackets.opened_at;
  is_escaped = brackets.is_escaped;
}

abbrev pub opens : Depth → ℕ → Bool
opens state byte = byte == 91 && not state.is_escaped

-- a bracket that closes one
abbrev pub closes : Depth → ℕ → Bool
closes state byte = byte == 93 && (not state.is_escaped && nat_lt 0 state.depth)

abbrev pub next_line : ℕ → ℕ → ℕ
next_line line byte = if byte == 10 then min (line + 1) (2 ^ 64 - 1) else line

abbrev pub next_depth : Depth → ℕ → ℕ
next_depth state byte = if opens state byte then min (state.depth + 1) (2 ^ 64 - 1) else if closes state byte then state.depth - 1 else state.depth

-- the outermost bracket is opened, or closed
abbrev pub begins : Depth → ℕ → Bool
begins state byte = opens state byte && state.depth == 0

abbrev pub ends : Depth → ℕ → Bool
ends state byte = closes state byte && state.depth == 1

abbrev pub next_inside : Depth → ℕ → List ℕ
next_inside state byte = if begins state byte || next_depth state byte == 0 then state.inside else state.inside ++ byte ∷ []

abbrev pub behind : Depth → ℕ → Depth
behind state byte = record {
  depth = next_depth state byte;
  inside = next_inside state byte;
  line = next_line state.line byte;
  opened_at = if begins state byte then next_line state.line byte else state.opened_at;
  is_escaped = byte == 92 && not state.is_escaped;
}

abbrev pub emptied : Depth → Depth
emptied state = record state { inside = [] }

-- the scripts in the outermost brackets of what is left of a text
abbrev pub brackets_from : Depth → List ℕ → List Passage
brackets_from state [] = []
brackets_from state (byte ∷ text) =
    if ends state byte then passage Commands state.opened_at state.inside ∷ brackets_from (emptied (behind state byte)) text
    else brackets_from (behind state byte) text

abbrev pub brackets_in : ℕ → List ℕ → List Passage
brackets_in line text = brackets_from (record { depth = 0; inside = []; line = line; opened_at = line; is_escaped = false }) text

-- ---- passages in one another

abbrev pub form_of : Role → Option Form
form_of role.Plain = None
form_of role.Script = Some Commands
form_of role.Condition = Some Condition
form_of role.Cases = Some Cases

-- a word that is a script or has one
abbrev pub body_of : Form → Passage → Word → Passage
body_of form outer word = passage form (line_of outer.line outer.text word.span.start) (without_plus (written outer.text word))

abbrev pub inner_as_form : Option Form → Passage → Word → List Passage
inner_as_form None outer word = []
inner_as_form (Some form) outer word = body_of form outer word ∷ []

abbrev pub inner_by : Option (List ℕ) → Option Form → Passage → Word → List Passage
inner_by None form outer word = brackets_in (line_of outer.line outer.text word.span.start) (source_of outer.text word)
inner_by (Some text) form outer word = inner_as_form form outer word

-- what a word of a command is or has: a word that isn't literal has the scripts in its brackets
abbrev pub inner_of : Role → Passage → Word → List Passage
inner_of role outer word = inner_by (literal word) (form_of role) outer word

abbrev pub inner_of_words : Texts → ℕ → Passage → List Word → List Passage
inner_of_words texts index outer [] = []
inner_of_words texts index outer (word ∷ words) = inner_of (role_of texts index) outer word ++ inner_of_words texts (index + 1) outer words

abbrev pub inner_of_command : Passage → Command → List Passage
inner_of_command outer command = inner_of_words (map literal command.words) 0 outer command.words

-- of the patterns and bodies of `switch` each second word is a body, but for a `-`, which goes on to the next one
abbrev pub is_case_body : List ℕ → ℕ → Word → Bool
is_case_body text index word = index % 2 == 1 && not (bytes_eq (source_of text word) (codes "-"))

abbrev pub inner_of_cases : ℕ → Passage → List Word → List Passage
inner_of_cases index outer [] = []
inner_of_cases index outer (word ∷ words) =
    (if is_case_body outer.text index word then inner_of role.Script outer word else []) ++ inner_of_cases (index + 1) outer words

abbrev pub is_open : List Word → Bool
is_open words = list_any (λ (word : Word). word.expand) words

abbrev pub said_by : Passage → Command → Said
said_by outer command =
    record { line = line_of outer.line outer.text command.span.start; words = map literal command.words; is_open = is_open command.words }

-- the commands of a passage, and the passages in it
abbrev pub said_as : Form → Passage → List Said
said_as Commands outer = map (said_by outer) (commands_in outer.text)
said_as Condition outer = []
said_as Cases outer = []

abbrev pub inner_as : Form → Passage → List Passage
inner_as Commands outer = flat_map (inner_of_command outer) (commands_in outer.text)
inner_as Condition outer = brackets_in outer.line outer.text
inner_as Cases outer = flat_map (λ (command : Command). inner_of_cases 0 outer command.words) (commands_in outer.text)

-- the passages that are read, so many of them at most: the first, then those in it, the last of them first, and then the others
unfoldable pub passages_in : ℕ → List Passage → List Passage
passages_in zero passages = []
passages_in (suc most) [] = []
passages_in (suc most) (first ∷ others) = first ∷ passages_in most (reverse (inner_as first.form first) ++ others)

-- how many bodies of a script are read
abbrev pub most_bodies : ℕ
most_bodies = 100000

-- those of a script
abbrev pub passages_of : List ℕ → List Passage
passages_of script = passages_in most_bodies (passage Commands 1 script ∷ [])

-- the commands of a script
abbrev pub calls_of : List ℕ → List Said
calls_of script = flat_map (λ (outer : Passage). said_as outer.form outer) (passages_of script)
