-- Meaning. What happens on a bench, a line each.
use Rattle.std.specs.Prelude.{ℕ, ◌+◌, ◌-◌, zero, suc, Bool, true, not, ◌==◌, ◌&&◌, nat_le, nat_lt, if◌then◌else◌, List, [], ◌∷◌, ◌++◌, flat_map, filter, codes, Option, None, Some, Vec, slice_get}
use Rattle.std.specs.Fmt.{decimal}
use Rattle.std.specs.String.{string_bytes}
use Rattle.tk_route.specs.declared.line.HostLine.{HostLine}
use Rattle.tk_session.specs.declared.session.AppBlock.{AppBlock}
use Rattle.tk_session.specs.declared.session.EventLine.{EventLine}
use Rattle.panels_film.specs.declared.bindings.Ran.{Ran}
use Rattle.panels_film.specs.declared.film.Frame.{Frame}
use Rattle.panels_film.specs.declared.notes.Note.{Note}
use Rattle.panels_film.specs.declared.pointed.Getter.{Getter}
use Rattle.panels_film.specs.declared.traces.Story.{Story}
use Rattle.panels_film.specs.Getters.{told, words}
use Rattle.panels_film.specs.Heads.{is_spent}
use Rattle.panels_film.specs.Scenes.{section_in}
use Rattle.panels_text.specs.Lines.{line_words, name_at}
use Rattle.panels_text.specs.Texts.{lines_without, text_of}

-- words at a moment
abbrev pub moment_line : ℕ → List ℕ → List ℕ
moment_line moment words = decimal moment ++ (codes " " ++ (words ++ codes "\n"))

-- ---- gestures

-- that no script ran, where none did
abbrev pub ran_words : Bool → List ℕ
ran_words ran = if ran then codes ": " else codes ": no script ran, "

abbrev pub got_words : List AppBlock → Bool → Option Getter → List ℕ
got_words panels ran None = []
got_words panels ran (Some getter) = ran_words ran ++ words panels (told getter)

-- who got a line, by its note
abbrev pub note_words : List AppBlock → Option Note → List ℕ
note_words panels None = []
note_words panels (Some note) = got_words panels note.ran note.getter

-- a line, and who got it
abbrev pub gesture_words : Story → ℕ → HostLine → List ℕ
gesture_words story number line = line_words story.panels.now line ++ note_words story.panels.now (slice_get story.notes.now number)

-- ---- bindings

-- what a frame tells of the panel in a slot; before the first one the lines that every section has
abbrev pub told_at : Option Frame → ℕ → List ℕ
told_at None slot = codes "tree\ntimers\ndone\n"
told_at (Some frame) slot = text_of (section_in frame.sections.items slot)

abbrev pub is_behind : Option Frame → ℕ → Bool
is_behind None moment = true
is_behind (Some frame) moment = nat_lt frame.moment moment

-- a binding ran behind a frame and up to a moment, after so many lines, in a panel that had steps
abbrev pub is_in : Option Frame → ℕ → ℕ → Ran → Bool
is_in before last count ran = ran.count == count && (is_behind before ran.moment && (nat_le ran.moment last && not (is_spent (told_at before ran.slot))))

abbrev pub binding_line : List AppBlock → Ran → List ℕ
binding_line panels ran = moment_line ran.moment (name_at panels ran.slot ++ (codes ": binding " ++ (string_bytes ran.words ++ codes " ran")))

-- ---- moments

abbrev pub line_text : Story → ℕ → Option EventLine → List ℕ
line_text story number None = []
line_text story number (Some event) = moment_line event.moment (gesture_words story number event.line)

module _ (story : Story) (before : Option Frame) (last : ℕ) where
  -- the bindings that ran after so many lines
  abbrev pub bindings_text : ℕ → List ℕ
  bindings_text count = flat_map (binding_line story.panels.now) (filter (is_in before last count) story.ran.now)

  -- the line of a number, and the bindings behind it
  abbrev pub number_text : ℕ → List ℕ
  number_text number = line_text story number (slice_get story.events.now number) ++ bindings_text (number + 1)

  -- so many of them, from a number on
  abbrev pub numbers_text : ℕ → ℕ → List ℕ
  numbers_text first zero = []
  numbers_text first (suc count) = number_text first ++ numbers_text (first + 1) count

  -- those between two numbers, with the bindings before them
  abbrev pub lines_text : ℕ → ℕ → List ℕ
  lines_text first behind = bindings_text first ++ numbers_text first (behind - first)

-- a line that a panel's section hadn't before
abbrev pub new_line : ℕ → List ℕ → List ℕ → List ℕ
new_line moment name line = moment_line moment (name ++ (codes ": " ++ line))

abbrev pub new_lines : ℕ → List ℕ → List ℕ → List ℕ → List ℕ
new_lines moment name section before = flat_map (new_line moment name) (lines_without section before)

-- of the panels from a slot on
module _ {Z : Type 0} (panels : List AppBlock) (moment : ℕ) (before : Option Frame) where
  abbrev pub news_from : ℕ → List (Vec ℕ Z) → List ℕ
  news_from slot [] = []
  news_from slot (section ∷ sections) = new_lines moment (name_at panels slot) (text_of section.items) (told_at before slot) ++ news_from (slot + 1) sections

abbrev pub count_of : Option Frame → ℕ
count_of None = 0
count_of (Some frame) = frame.count

-- what came of a moment: the lines of gestures, and what the panels' sections tell that they didn't tell before
abbrev pub frame_text : Story → Option Frame → Frame → List ℕ
frame_text story before frame =
    lines_text story before frame.moment (count_of before) frame.count ++ news_from story.panels.now frame.moment before 0 frame.sections.items

-- what happened behind a frame, moment by moment
abbrev pub trace_from : Story → Option Frame → List Frame → List ℕ
trace_from story before [] = []
trace_from story before (frame ∷ frames) = frame_text story before frame ++ trace_from story (Some frame) frames

abbrev pub trace : Story → List Frame → List ℕ
trace story frames = trace_from story None frames
