-- Meaning. To which case of a bench it is told who got a line, and what.
use Rattle.std.specs.Prelude.{◌≡◌, ℕ, ◌+◌, Bool, not, ◌||◌, ◌==◌, nat_lt, if◌then◌else◌, List, [], ◌∷◌, ◌++◌, codes, length, map, Option, Some, None, position, slice_get, slice_set}
use Rattle.std.specs.Fmt.{decimal}
use Rattle.tk_alias.specs.Services.{answer_of}
use Rattle.tk_alias.specs.declared.service.Service.{Service}
use Rattle.tk_session.specs.Session.{Plan}
use Rattle.tk_session.specs.declared.session.AppBlock.{AppBlock}
use Rattle.tk_session.specs.declared.session.EventLine.{EventLine}
use Rattle.tkhost.specs.Play.{services_in}
use Rattle.panels_film.specs.Films.{begun}
use Rattle.panels_film.specs.Getters.{Told as Getter, slot_of, words}
use Rattle.panels_film.specs.Notes.{getter_told, notes_from, told as told_note}
use Rattle.panels_film.specs.Screens.{at_first}
use Rattle.panels_film.specs.declared.notes.Note.{Note}
use Rattle.panels_report.specs.Cases.{Told}
use Rattle.panels_text.specs.Lines.{line_words}

-- it fails
abbrev pub has_problem : Told → Bool
has_problem case = not (length case.problems == 0)

module _ {A : Type 0} (fails : A → Bool) where
  abbrev pub own_case : ℕ → Option A → Option ℕ
  own_case slot None = None
  own_case slot (Some case) = if fails case then Some slot else None

  -- that of the panel, or the first that fails where no panel got the line
  abbrev pub case_for : List A → Option ℕ → Option ℕ
  case_for cases None = position fails cases
  case_for cases (Some slot) = own_case slot (slice_get cases slot)

-- ---- lines that did nothing

-- who got a press or a key that ran no script and changed nothing
abbrev pub idle_getter : Note → Option Getter
idle_getter note = if note.ran || note.changed then None else getter_told note

abbrev pub idle_words : List AppBlock → EventLine → Getter → List ℕ
idle_words panels event getter =
    codes "at " ++ (decimal event.moment ++ (codes " ms: " ++ (line_words panels event.line ++ (codes ": no script ran, " ++ words panels getter))))

-- a case with one problem more, where it is there
abbrev pub more_problems : List ℕ → Told → Told
more_problems problem case = record case { problems = case.problems ++ problem ∷ [] }

abbrev pub with_more : List ℕ → ℕ → List Told → Option Told → List Told
with_more problem number cases None = cases
with_more problem number cases (Some case) = slice_set cases number (more_problems problem case)

abbrev pub with_problem : List ℕ → ℕ → List Told → List Told
with_problem problem number cases = with_more problem number cases (slice_get cases number)

-- the cases, and how many lines were told
pub record Telling : Type 0 where
  pub count : ℕ
  pub cases : List Told

abbrev pub telling : ℕ → List Told → Telling
telling count cases = record { count = count; cases = cases }

-- how many lines are told of a bench
abbrev pub most_told : ℕ
most_told = 5

abbrev pub tell : List ℕ → Option ℕ → Telling → Telling
tell problem None so_far = so_far
tell problem (Some number) so_far = telling (so_far.count + 1) (with_problem problem number so_far.cases)

abbrev pub tell_idle : List AppBlock → EventLine → Option Getter → Telling → Telling
tell_idle panels event None so_far = so_far
tell_idle panels event (Some getter) so_far =
    if nat_lt so_far.count most_told then tell (idle_words panels event getter) (case_for has_problem so_far.cases (slot_of getter)) so_far else so_far

abbrev pub tell_line : List AppBlock → EventLine → Option Note → Telling → Telling
tell_line panels event None so_far = so_far
tell_line panels event (Some note) so_far = tell_idle panels event (idle_getter note) so_far

-- the lines from a number on, each with its note
module _ (panels : List AppBlock) (notes : List Note) where
  abbrev pub tell_lines : ℕ → List EventLine → Telling → Telling
  tell_lines number [] so_far = so_far
  tell_lines number (event ∷ events) so_far = tell_lines (number + 1) events (tell_line panels event (slice_get notes number) so_far)

-- what came of the lines of a session
abbrev pub AreNotes : Plan → List Note → Type 0
AreNotes session notes =
    map told_note notes
    ≡ notes_from (λ (service : Service). answer_of service.kind service.config) (length session.apps) (begun session (map services_in session.apps)) (at_first session.apps) session.events

-- The cases have grown by who got the first presses and keys that ran no script and changed nothing.
abbrev pub HaveIdle : Plan → List Told → List Told → Type 0
HaveIdle session before after =
    (notes : List Note) × AreNotes session notes × (after ≡ (tell_lines session.apps notes 0 session.events (telling 0 before)).cases)
