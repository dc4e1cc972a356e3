-- Meaning. What isn't as it has to be, in words.
use Rattle.std.specs.Prelude.{ℕ, Bool, true, false, ◌||◌, if◌then◌else◌, List, [], ◌∷◌, ◌++◌, map, filter, flat_map, codes, nat_eq, Option, Some, None, slice_get, option_map, unwrap_or}
use Rattle.std.specs.Fmt.{decimal}
use Rattle.std.specs.List.{list_any, starts_with}
use Rattle.std.specs.Option.{option_to_list}
use Rattle.std.specs.Str.{bytes_eq}
use Rattle.std.specs.String.{string_bytes}
use Rattle.tk_base.specs.declared.rect.Rect.{Rect}
use Rattle.panels.specs.declared.bench.Act.{Act}
use Rattle.panels.specs.declared.bench.Act.TheVariants.{Do, See}
use Rattle.panels.specs.declared.bench.Answer.{Answer}
use Rattle.panels.specs.declared.bench.Answer.TheVariants as answers
use Rattle.panels.specs.declared.bench.Bench.{Bench}
use Rattle.panels.specs.declared.bench.Entry.{Entry}
use Rattle.panels.specs.declared.bench.Fact.{Fact}
use Rattle.panels.specs.declared.bench.Fact.TheVariants.{There, Text, Class, Place, Mapped}
use Rattle.panels.specs.declared.bench.Gesture.{Gesture}
use Rattle.panels.specs.declared.bench.Gesture.TheVariants.{Pointer, Keys, Lines}
use Rattle.panels.specs.declared.bench.Look.{Look}
use Rattle.panels.specs.declared.bench.Look.TheVariants.{Asked, Window, Says, HasError, State, LeastSteps, Waiting}
use Rattle.panels.specs.declared.bench.Question.{Question}
use Rattle.panels.specs.declared.bench.Question.TheVariants as questions
use Rattle.panels.specs.declared.finding.Finding.{Finding}
use Rattle.panels.specs.declared.finding.Found.{Found}
use Rattle.panels.specs.declared.finding.Found.TheVariants.{Missed, Unseen}
use Rattle.panels.specs.declared.pane.Miss.{Miss}
use Rattle.panels.specs.declared.pane.Miss.TheVariants.{NoWindow, Hidden, Covered, NoKeyboard}
use Rattle.panels_bench.specs.declared.sides.Side.{Side}
use Rattle.panels_text.specs.Texts.{behind, first_word, folder, joined, lines_of, text_of}

abbrev pub label_in : List ℕ → Option (List ℕ) → List ℕ → List ℕ
label_in file (Some script) panel = folder file ++ script
label_in file None panel = file ++ (codes ", panel " ++ panel)

-- what the script of a panel is told by: its file, beside the bench's, or else the bench's file with the panel's name
abbrev pub label_of : List ℕ → Side → List ℕ → List ℕ
label_of file side panel = label_in file (option_map string_bytes side.script) panel

-- ---- lines of a section

abbrev pub row : List ℕ → List ℕ
row line = codes "\n      " ++ line

abbrev pub begins_so : List ℕ → List ℕ → List ℕ → Bool
begins_so first second line = starts_with nat_eq line first || starts_with nat_eq line second

-- those that begin with one of two words, each in a row of its own
abbrev pub rows_among : List ℕ → List ℕ → List (List ℕ) → List ℕ
rows_among first second lines = flat_map row (filter (begins_so first second) lines)

abbrev pub rows_with : List ℕ → List ℕ → List ℕ → List ℕ
rows_with first second section = rows_among first second (lines_of (text_of section))

-- those of all windows
abbrev pub all_windows : List ℕ → List ℕ
all_windows section = rows_with (codes "win ") (codes "win ") section

-- how the line of a window begins
abbrev pub front_of : List ℕ → List ℕ
front_of path = codes "win " ++ (path ++ codes " ")

abbrev pub is_there : List ℕ → List (List ℕ) → Bool
is_there front lines = list_any (λ line. starts_with nat_eq line front) lines

-- that of a window, or of all where it isn't there
abbrev pub window_rows : List ℕ → List ℕ → List ℕ
window_rows path section =
    if is_there (front_of path) (lines_of (text_of section)) then rows_with (front_of path) (front_of path) section else all_windows section

-- ---- gestures that hit nothing

-- the paths of windows, in the order of their lines
abbrev pub path_in : List ℕ → Option (List ℕ)
path_in line = option_map first_word (behind (codes "win ") line)

abbrev pub paths_among : List (List ℕ) → List (List ℕ)
paths_among lines = flat_map (λ line. option_to_list (path_in line)) lines

-- those behind a path
abbrev pub paths_behind : List ℕ → List (List ℕ) → List (List ℕ)
paths_behind path [] = []
paths_behind path (own ∷ others) = if bytes_eq own path then others else paths_behind path others

-- the window of this number among those behind another
abbrev pub path_above : List ℕ → List ℕ → ℕ → List ℕ
path_above section path place = unwrap_or (slice_get (paths_behind path (paths_among (lines_of (text_of section)))) place) (codes "another window")

abbrev pub no_keyboard : List ℕ
no_keyboard = codes "no panel has the keyboard: click a window of it before, or do focus = \"NAME\""

abbrev pub with_windows : List ℕ → List ℕ → List ℕ
with_windows words section = words ++ (codes ". The windows:" ++ all_windows section)

-- why a gesture at a window hits nothing, with the windows that there are
abbrev pub missed_words : List ℕ → Miss → List ℕ → List ℕ
missed_words path NoWindow section = with_windows (codes "there is no window " ++ path) section
missed_words path Hidden section = with_windows (codes "window " ++ (path ++ codes " isn't hit: it isn't shown there")) section
missed_words path (Covered place) section =
    with_windows (codes "window " ++ (path ++ (codes " isn't hit: there " ++ (path_above section path place ++ codes " lies above it")))) section
missed_words path NoKeyboard section = no_keyboard

-- ---- looks that aren't told

abbrev pub rect_words : Rect → List ℕ
rect_words place =
    codes "place [" ++ (decimal place.x ++ (codes ", " ++ (decimal place.y ++ (codes ", " ++ (decimal place.width ++ (codes ", " ++ (decimal place.height ++ codes "]")))))))

-- what a window was to show
abbrev pub fact_words : Fact → List ℕ
fact_words (There true) = codes "to be there"
fact_words (There false) = codes "not to be there"
fact_words (Text text) = codes "text \"" ++ (string_bytes text ++ codes "\"")
fact_words (Class class) = codes "class " ++ string_bytes class
fact_words (Place place) = rect_words place
fact_words (Mapped true) = codes "to be mapped"
fact_words (Mapped false) = codes "not to be mapped"

-- what was asked
abbrev pub question_words : Question → List ℕ
question_words (questions.Option window name) = codes "option " ++ (name ++ (codes " of window " ++ string_bytes window))
question_words (questions.Value window) = codes "the value of window " ++ string_bytes window
question_words (questions.Selection window) = codes "the selected rows of window " ++ string_bytes window
question_words (questions.Active window) = codes "the active row of window " ++ string_bytes window
question_words (questions.Cursor window) = codes "the cursor of window " ++ string_bytes window
question_words questions.Focus = codes "the focus window"
question_words questions.Title = codes "the title"
question_words (questions.Variable name) = codes "variable " ++ name

-- the window of which it was asked
abbrev pub window_of : Question → Option (List ℕ)
window_of (questions.Option window name) = Some (string_bytes window)
window_of (questions.Value window) = Some (string_bytes window)
window_of (questions.Selection window) = Some (string_bytes window)
window_of (questions.Active window) = Some (string_bytes window)
window_of (questions.Cursor window) = Some (string_bytes window)
window_of questions.Focus = None
window_of questions.Title = None
window_of (questions.Variable name) = None

abbrev pub row_words : List ℕ → List ℕ
row_words rows = codes "[" ++ (joined (codes ", ") (map decimal rows) ++ codes "]")

abbrev pub answer_words : Answer → List ℕ
answer_words answers.Nothing = codes "none, there is no such thing"
answer_words (answers.Text text) = codes "\"" ++ (text ++ codes "\"")
answer_words (answers.Number number) = decimal number
answer_words (answers.Rows rows) = row_words rows.items

abbrev pub windows_unless : Option (List ℕ) → List ℕ → List ℕ
windows_unless None section = []
windows_unless (Some path) section = codes ". The windows:" ++ window_rows path section

-- where there is no such thing of a window, its line or those of all
abbrev pub lacking : Answer → Option (List ℕ) → List ℕ → List ℕ
lacking answers.Nothing path section = windows_unless path section
lacking (answers.Text text) path section = []
lacking (answers.Number number) path section = []
lacking (answers.Rows rows) path section = []

abbrev pub answered : Question → Answer → Finding → List ℕ
answered question wanted finding =
    codes ": wanted " ++ (answer_words wanted ++ (codes ", got " ++ (answer_words finding.answer ++ lacking finding.answer (window_of question) finding.section.items)))

abbrev pub or_none : List ℕ → List ℕ
or_none [] = codes " none"
or_none (byte ∷ bytes) = byte ∷ bytes

-- what was wanted, in front of what there is
abbrev pub wanted_words : Look → List ℕ
wanted_words (Asked question wanted) = question_words question
wanted_words (Window path fact) = codes "window " ++ (string_bytes path ++ (codes ": wanted " ++ (fact_words fact ++ codes ", got:")))
wanted_words (Says text) = codes "its transcript has no line \"" ++ (string_bytes text ++ codes "\". It has:")
wanted_words (HasError true) = codes "an error is wanted in its transcript, and there is"
wanted_words (HasError false) = codes "there is an error in its transcript:"
wanted_words (State state) = codes "state: wanted " ++ (string_bytes state ++ codes ", got")
wanted_words (LeastSteps least) = codes "steps left: wanted " ++ (decimal least ++ codes " or more, got (the last number)")
wanted_words (Waiting count) = codes "timers and idle scripts: wanted " ++ (decimal count ++ codes ", got:")

-- what there is: the answer, the line of the window, or the lines that tell of the same
abbrev pub got_words : Look → Finding → List ℕ
got_words (Asked question wanted) finding = answered question wanted finding
got_words (Window path fact) finding = window_rows (string_bytes path) finding.section.items
got_words (Says text) finding = or_none (rows_with (codes "out ") (codes "err ") finding.section.items)
got_words (HasError wanted) finding = or_none (rows_with (codes "err ") (codes "err ") finding.section.items)
got_words (State state) finding = or_none (rows_with (codes "app ") (codes "app ") finding.section.items)
got_words (LeastSteps least) finding = or_none (rows_with (codes "app ") (codes "app ") finding.section.items)
got_words (Waiting count) finding = or_none (rows_with (codes "timer ") (codes "idle ") finding.section.items)

abbrev pub unseen_words : Look → Finding → List ℕ
unseen_words look finding = wanted_words look ++ got_words look finding

-- ---- findings

abbrev pub unseen_or_none : Option Look → Finding → List ℕ
unseen_or_none None finding = []
unseen_or_none (Some look) finding = unseen_words look finding

abbrev pub words_of_gesture : Gesture → Found → Finding → List ℕ
words_of_gesture (Pointer pointing) (Missed miss) finding = missed_words (string_bytes pointing.target.window) miss finding.section.items
words_of_gesture (Pointer pointing) (Unseen number) finding = no_keyboard
words_of_gesture (Keys lines) found finding = no_keyboard
words_of_gesture (Lines lines) found finding = no_keyboard

abbrev pub words_of_sight : List Look → Found → Finding → List ℕ
words_of_sight looks (Missed miss) finding = no_keyboard
words_of_sight looks (Unseen number) finding = unseen_or_none (slice_get looks number) finding

abbrev pub words_of : Act → Found → Finding → List ℕ
words_of (Do gesture) found finding = words_of_gesture gesture found finding
words_of (See slot looks) found finding = words_of_sight looks.items found finding

-- words behind the line of the bench that asks for what was found, and its moment
abbrev pub told_words : ℕ → Entry → List ℕ → List ℕ
told_words line entry words = codes "line " ++ (decimal line ++ (codes ", at " ++ (decimal entry.moment ++ (codes " ms: " ++ words))))

abbrev pub told_in : ℕ → Option Entry → Finding → List ℕ
told_in line None finding = []
told_in line (Some entry) finding = told_words line entry (words_of entry.act finding.found finding)

-- a finding in words: nothing where it is of no entry
abbrev pub told : Bench → List ℕ → Finding → List ℕ
told bench lines finding = told_in (unwrap_or (slice_get lines finding.entry) 0) (slice_get bench.entries.items finding.entry) finding
