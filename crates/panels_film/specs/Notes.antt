-- Meaning. What came of the lines of gestures.
use Rattle.std.specs.Prelude.{ℕ, Bool, not, List, [], ◌∷◌, map, take, Option, option_map}
use Rattle.std.specs.Cmp.Lexicographic.{pointwise}
use Rattle.std.specs.Str.{bytes_eq}
use Rattle.tk_app.specs.Seen.{Meaning}
use Rattle.tk_host.specs.Held.{Call}
use Rattle.tk_host.specs.Sections.{sections_after}
use Rattle.tk_session.specs.declared.session.EventLine.{EventLine}
use Rattle.panels_film.specs.declared.notes.Note.{Note}
use Rattle.panels_film.specs.Films.{handed, reached}
use Rattle.panels_film.specs.Getters.{Told, getter_of, told as told_getter}
use Rattle.panels_film.specs.Screens.{Known, taken}

-- who got a line, and whether a panel showed something else than before
pub record Came : Type 0 where
  pub getter : Option Told
  pub changed : Bool

abbrev pub getter_told : Note → Option Told
getter_told note = option_map told_getter note.getter

abbrev pub told : Note → Came
told note = record { getter = getter_told note; changed = note.changed }

-- sections are others than before
abbrev pub are_others : List (List ℕ) → List (List ℕ) → Bool
are_others before after = not (pointwise bytes_eq before after)

module _ {M : Type 0} (answer : M → Meaning) (panels : ℕ) where
  -- the sections of so many panels change by a line
  abbrev pub changes : List (Call M) → EventLine → Bool
  changes calls event = are_others (take panels (sections_after answer (reached calls event.moment))) (take panels (sections_after answer (handed calls event)))

  -- a line's moment is reached, and then it is told who gets it
  abbrev pub note_of : List (Call M) → Known → EventLine → Came
  note_of calls known event = record { getter = getter_of answer (reached calls event.moment) known event.line; changed = changes calls event }

  -- lines one after another, each with what the lines before it made of the screen
  abbrev pub notes_from : List (Call M) → Known → List EventLine → List Came
  notes_from calls known [] = []
  notes_from calls known (event ∷ events) = note_of calls known event ∷ notes_from (handed calls event) (taken event.line known) events
