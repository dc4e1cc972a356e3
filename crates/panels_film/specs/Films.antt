-- Meaning. What a bench shows from moment to moment.
use Rattle.std.specs.Prelude.{◌≡◌, ℕ, ◌-◌, zero, suc, min, Bool, true, false, ◌==◌, ◌&&◌, nat_le, nat_lt, if◌then◌else◌, List, [], ◌∷◌, ◌++◌, length, map, take, drop, Option, Some, None, Vec, option_map, slice_get}
use Rattle.std.specs.Cmp.Lexicographic.{pointwise}
use Rattle.std.specs.Str.{bytes_eq}
use Rattle.std.specs.declared.alloc.Global.{Global}
use Rattle.std.specs.String.{string_bytes}
use Rattle.tk_host.specs.Held.{AdvanceTo, Call, LineAt, Start, held_after}
use Rattle.tk_host.specs.Sections.{sections_after}
use Rattle.tk_app.specs.Seen.{Meaning}
use Rattle.tk_session.specs.Session.{Plan}
use Rattle.tk_session.specs.declared.session.EventLine.{EventLine}
use Rattle.tkhost.specs.Calls.{adding, lining}
use Rattle.panels.specs.Dues.{next_due}
use Rattle.panels_film.specs.declared.film.Film.{Film}
use Rattle.panels_film.specs.declared.film.Frame.{Frame}
use Rattle.panels_film.specs.declared.looks.WindowLook.{WindowLook}
use Rattle.panels_film.specs.Looks.{Look, looks_from, told_all}
use Rattle.panels_film.specs.Moments.{count_until}

-- the earlier of two moments, where they are there
abbrev pub earlier : Option ℕ → Option ℕ → Option ℕ
earlier None other = other
earlier (Some one) None = Some one
earlier (Some one) (Some other) = Some (min one other)

-- it tells how many lines come up to its moment
abbrev pub IsCounted : List EventLine → Frame → Type 0
IsCounted events frame = frame.count ≡ count_until frame.moment events

module _ {M : Type 0} where
  -- the panels are added, each with its aliases, and have run their scripts
  abbrev pub begun : Plan → List (List (List ℕ × M)) → List (Call M)
  begun plan lists = adding plan.apps lists ++ Start ∷ []

  -- a moment is reached, and a line handed on when its moment is reached
  abbrev pub reached : List (Call M) → ℕ → List (Call M)
  reached calls moment = calls ++ AdvanceTo moment ∷ []

  abbrev pub handed : List (Call M) → EventLine → List (Call M)
  handed calls event = reached calls event.moment ++ LineAt event.moment event.line ∷ []

  -- the lines behind so many that come up to a moment are handed on, and the moment is reached
  abbrev pub come : Plan → List (Call M) → ℕ → ℕ → List (Call M)
  come plan calls before moment = (calls ++ lining (drop before (take (count_until moment plan.events) plan.events))) ++ AdvanceTo moment ∷ []

  -- they have run their scripts, and come to a moment
  abbrev pub calls_until : Plan → ℕ → List (List (List ℕ × M)) → List (Call M)
  calls_until plan moment lists = come plan (begun plan lists) 0 moment

-- ---- the moments of a film

-- what the panels show at a moment, and how their windows look
pub record Shown : Type 0 where
  pub moment : ℕ
  pub count : ℕ
  pub sections : List (List ℕ)
  pub looks : List (List Look)

abbrev pub shown : Frame → Shown
shown frame = record {
  moment = frame.moment;
  count = frame.count;
  sections = map (λ (section : Vec ℕ Global). section.items) frame.sections.items;
  looks = told_all frame.looks.items;
}

-- the earliest moment behind one at which a timer of these sections is due, or this one
abbrev pub earliest_due : ℕ → Option ℕ → List (List ℕ) → Option ℕ
earliest_due moment least [] = least
earliest_due moment least (section ∷ sections) = earliest_due moment (earlier least (next_due moment section)) sections

-- .. up to the end
abbrev pub up_to : ℕ → Option ℕ → Option ℕ
up_to end None = None
up_to end (Some moment) = if nat_le moment end then Some moment else None

abbrev pub timer_behind : ℕ → Shown → Option ℕ
timer_behind end now = up_to end (earliest_due now.moment None now.sections)

-- the moment of the first line that hasn't come
abbrev pub line_behind : List EventLine → Shown → Option ℕ
line_behind events now = option_map (λ (event : EventLine). event.moment) (slice_get events now.count)

abbrev pub later_than : ℕ → Option ℕ → Option ℕ
later_than moment None = None
later_than moment (Some other) = if nat_lt moment other then Some other else None

-- the next moment at which a timer is due or a line comes
abbrev pub moment_behind : Plan → Shown → Option ℕ
moment_behind plan now = later_than now.moment (earlier (timer_behind plan.end now) (line_behind plan.events now))

abbrev pub at_next : {A : Type 0} → List A → (ℕ → List A) → Option ℕ → List A
at_next none some None = none
at_next none some (Some moment) = some moment

abbrev pub or_end : (ℕ → Bool) → Option ℕ → Bool
or_end some None = true
or_end some (Some moment) = some moment

module _ {M : Type 0} (answer : M → Meaning) (plan : Plan) where
  -- what the panels show behind these calls
  abbrev pub sections_at : List (Call M) → List (List ℕ)
  sections_at calls = take (length plan.apps) (sections_after answer calls)

  -- likewise at a moment, with how many lines have come by then and how the windows look
  abbrev pub shown_at : List (Call M) → ℕ → Shown
  shown_at calls moment = record {
    moment = moment;
    count = count_until moment plan.events;
    sections = sections_at calls;
    looks = looks_from (held_after answer calls) 0 (sections_at calls);
  }

  -- from a moment on, behind calls by which so many lines had come: what is shown at it and at each next one, of the first so many moments
  unfoldable pub shown_from : ℕ → List (Call M) → ℕ → ℕ → List Shown
  shown_from zero calls before moment = []
  shown_from (suc left) calls before moment =
      let now = shown_at (come plan calls before moment) moment in
      now ∷ at_next [] (λ later. shown_from left (come plan calls before moment) now.count later) (moment_behind plan now)

  -- these are all
  unfoldable pub are_all : ℕ → List (Call M) → ℕ → ℕ → Bool
  are_all zero calls before moment = false
  are_all (suc left) calls before moment =
      let now = shown_at (come plan calls before moment) moment in
      or_end (λ later. are_all left (come plan calls before moment) now.count later) (moment_behind plan now)

-- ---- the frames of a film

-- two windows look the same
abbrev pub is_same_look : WindowLook → WindowLook → Bool
is_same_look one other = bytes_eq (string_bytes one.marks) (string_bytes other.marks) && bytes_eq (string_bytes one.style) (string_bytes other.style)

-- the same sections, with windows that look the same
abbrev pub is_alike : Frame → Frame → Bool
is_alike one other =
    pointwise (λ (xs ys : Vec ℕ Global). bytes_eq xs.items ys.items) one.sections.items other.sections.items
    && pointwise (λ (xs ys : Vec WindowLook Global). pointwise is_same_look xs.items ys.items) one.looks.items other.looks.items

-- it shows the same as the frame before it, and no line came since
abbrev pub is_repeated : Option Frame → Frame → Bool
is_repeated None frame = false
is_repeated (Some last) frame = last.count == frame.count && is_alike last frame

-- the frames that show something else than the one before
abbrev pub without_repeats : Option Frame → List Frame → List Frame
without_repeats last [] = []
without_repeats last (frame ∷ frames) = if is_repeated last frame then without_repeats last frames else frame ∷ without_repeats (Some frame) frames

-- the last of frames
abbrev pub last_of : List Frame → Option Frame
last_of frames = slice_get frames (length frames - 1)

-- one more, where it isn't repeated
abbrev pub with_frame : List Frame → Frame → List Frame
with_frame frames frame = if is_repeated (last_of frames) frame then frames else frames ++ frame ∷ []

-- the frames of what panels show from a moment on, at the first so many moments: those that aren't repeated
pub record AreFrames {M : Type 0} (answer : M → Meaning) (plan : Plan) (left : ℕ) (calls : List (Call M)) (before moment : ℕ) (last : Option Frame) (frames : List Frame) (is_whole : Bool) : Type 0 where
  pub all : List Frame
  pub shown_are : map shown all ≡ shown_from answer plan left calls before moment
  pub frames_are : frames ≡ without_repeats last all
  pub whole_is : is_whole ≡ are_all answer plan left calls before moment

-- a film of panels behind these calls: what they show at the first 500 moments
abbrev pub IsFilm : {M : Type 0} → (M → Meaning) → Plan → List (Call M) → Film → Type 0
IsFilm answer plan calls film = AreFrames answer plan 500 calls 0 0 None film.frames.items film.is_whole
