-- Meaning. What the lines of a session that comes line by line are answered.
use Rattle.std.specs.Prelude.{ℕ, ◌==◌, List, [], ◌∷◌, ◌++◌, codes, find, flat_map, nat_eq, Option, Some, None, position}
use Rattle.std.specs.Fmt.{decimal}
use Rattle.std.specs.List.{slice_split, starts_with}
use Rattle.std.specs.Str.{bytes_eq}
use Rattle.tk_app.specs.declared.turns.Turn.{Turn}
use Rattle.tk_session.specs.declared.session.AppBlock.{AppBlock}
use Rattle.panels_text.specs.Lines.{name_at}
use Rattle.panels_report.specs.declared.answering.Reply.{Reply}
use Rattle.panels_report.specs.declared.answering.Reply.TheVariants as replies

-- a text; the sections at the end; or why the line is refused
pub data Answer : Type 0 where
  Text : List ℕ → Answer
  AtEnd : List ℕ → Answer
  Refused : List ℕ → Answer

abbrev pub told : Reply → Answer
told (replies.Told text) = Text text.items
told (replies.Ended text) = AtEnd text.items
told (replies.Refused words) = Refused words.now

abbrev pub IsRefusal : Reply → Type 0
IsRefusal (replies.Told text) = ⊥
IsRefusal (replies.Ended text) = ⊥
IsRefusal (replies.Refused words) = Unit {0}

abbrev pub IsTold : Reply → Type 0
IsTold (replies.Told text) = Unit {0}
IsTold (replies.Ended text) = ⊥
IsTold (replies.Refused words) = ⊥

-- the slot of the panel with a name
abbrev pub named : List ℕ → List AppBlock → Option ℕ
named name panels = position (λ (panel : AppBlock). bytes_eq panel.name name) panels

abbrev pub no_panel : Answer
no_panel = Refused (codes "no panel has this name")

-- the first line of a section that begins so
abbrev pub window_line : List ℕ → List ℕ → Option (List ℕ)
window_line front section = find (λ line. starts_with nat_eq line front) (slice_split (λ byte. byte == 10) section)

abbrev pub line_told : Option (List ℕ) → Answer
line_told None = Refused (codes "the panel has no window of this path")
line_told (Some line) = Text (line ++ 10 ∷ [])

module _ (section_of : ℕ → List ℕ) where
  -- the section of a panel
  abbrev pub section_told : Option ℕ → Answer
  section_told None = no_panel
  section_told (Some slot) = Text (section_of slot)

  -- in it the line of the window with a path
  abbrev pub window_told : List ℕ → Option ℕ → Answer
  window_told path None = no_panel
  window_told path (Some slot) = line_told (window_line (codes "win " ++ path ++ codes " ") (section_of slot))

-- the turns that took steps, a line each
abbrev pub turn_text : List AppBlock → Turn → List ℕ
turn_text panels turn = codes "turn " ++ name_at panels turn.slot ++ 32 ∷ decimal turn.steps ++ 10 ∷ []

abbrev pub turns_told : List AppBlock → List Turn → Answer
turns_told panels turns = Text (flat_map (turn_text panels) turns)
