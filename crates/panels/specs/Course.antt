-- Meaning. What comes of a bench: its entries, one after another.
use Rattle.std.specs.Prelude.{◌≡◌, ℕ, ◌+◌, List, [], ◌∷◌, ◌++◌, map, Option, None, Result, Ok, Err, slice_get}
use Rattle.std.specs.Option.{unwrap_or}
use Rattle.tk_base.specs.declared.rect.Rect.{Rect}
use Rattle.tk_route.specs.Lines.{focus_by, rects_by}
use Rattle.tk_route.specs.declared.line.HostLine.{HostLine}
use Rattle.tk_app.specs.Seen.{Meaning}
use Rattle.tk_host.specs.Held.{AdvanceTo, Call, HostState, LineAt, Start, held_after}
use Rattle.tk_host.specs.Sections.{sections_after}
use Rattle.tk_session.specs.Session.{rects_of}
use Rattle.tk_session.specs.declared.session.AppBlock.{AppBlock}
use Rattle.tk_session.specs.declared.session.EventLine.{EventLine}
use Rattle.tkhost.specs.Calls.{adding}
use Rattle.panels.specs.declared.bench.Act.{Act}
use Rattle.panels.specs.declared.bench.Act.TheVariants.{Do, See}
use Rattle.panels.specs.declared.bench.Bench.{Bench}
use Rattle.panels.specs.declared.bench.Entry.{Entry}
use Rattle.panels.specs.declared.bench.Gesture.{Gesture}
use Rattle.panels.specs.declared.bench.Gesture.TheVariants.{Pointer, Keys, Lines}
use Rattle.panels.specs.declared.finding.Found.TheVariants.{Missed}
use Rattle.panels.specs.declared.pane.Miss.{Miss}
use Rattle.panels.specs.declared.course.Course.{Course}
use Rattle.panels.specs.declared.screen.Spot.{Spot}
use Rattle.panels.specs.Asked.{NothingTold, answer_to}
use Rattle.panels.specs.Gestures.{outcome_of}
use Rattle.panels.specs.Screens.{came}
use Rattle.panels.specs.Looks.{ToldFinding, told, unseen_from}

-- How far a bench has come: the calls of its host, what is known of the screen, the lines that its gestures became, and what was found.
pub record Way (M : Type 0) : Type 0 where
  pub calls : List (Call M)
  pub rects : List Rect
  pub keys : Option ℕ
  pub pointer : Option Spot
  pub events : List EventLine
  pub found : List ToldFinding

-- the slot of the panel that a gesture is for; the first where it is for none
abbrev pub slot_of : Gesture → ℕ
slot_of (Pointer pointing) = pointing.target.slot
slot_of (Keys lines) = 0
slot_of (Lines lines) = 0

module _ {M : Type 0} where
  -- the host is handed a line
  abbrev pub handed : EventLine → Way M → Way M
  handed event way = record {
    calls = way.calls ++ LineAt event.moment event.line ∷ [];
    rects = rects_by event.line way.rects;
    keys = focus_by event.line way.keys;
    pointer = came event.line way.pointer;
    events = way.events ++ event ∷ [];
    found = way.found;
  }

  -- lines of one moment, one after another
  abbrev pub handed_all : ℕ → List HostLine → Way M → Way M
  handed_all moment [] way = way
  handed_all moment (line ∷ lines) way = handed_all moment lines (handed (record { moment = moment; line = line }) way)

  abbrev pub with_found : List ToldFinding → Way M → Way M
  with_found found way = record way { found = way.found ++ found }

  -- a gesture that became these lines, or that hit nothing, where its panel had this section
  abbrev pub performed : ℕ → ℕ → List ℕ → Result (List HostLine) Miss → Way M → Way M
  performed entry moment section (Ok lines) way = handed_all moment lines way
  performed entry moment section (Err miss) way = with_found (record { entry = entry; found = Missed miss; section = section; answer = NothingTold } ∷ []) way

  abbrev pub advanced : ℕ → Way M → Way M
  advanced moment way = record way { calls = way.calls ++ AdvanceTo moment ∷ [] }

  -- before the first entry: the panels were added, each with its aliases, and have run their scripts
  abbrev pub begun : List AppBlock → List (List (List ℕ × M)) → Way M
  begun panels lists = record { calls = adding panels lists ++ Start ∷ []; rects = rects_of panels; keys = None; pointer = None; events = []; found = [] }

module _ {M : Type 0} (answer : M → Meaning) where
  -- what the panel in a slot shows after calls of the host: its section, by itself alone; nothing where the slot has none
  abbrev pub section_at : List (Call M) → ℕ → List ℕ
  section_at calls slot = unwrap_or (slice_get (sections_after answer calls) slot) []

  abbrev pub acted : ℕ → ℕ → Act → Way M → Way M
  acted entry moment (Do gesture) way =
      let section = section_at way.calls (slot_of gesture) in performed entry moment section (outcome_of gesture way.rects way.keys way.pointer section) way
  acted entry moment (See slot looks) way =
      with_found (unseen_from (answer_to slot (held_after answer way.calls)) entry 0 looks.items (section_at way.calls slot)) way

  -- the moment of an entry is reached, and then what it says happens
  abbrev pub entered : ℕ → Entry → Way M → Way M
  entered number entry way = acted number entry.moment entry.act (advanced entry.moment way)

  -- the entries from a number on
  abbrev pub went : ℕ → List Entry → Way M → Way M
  went number [] way = way
  went number (entry ∷ entries) way = went (number + 1) entries (entered number entry way)

  -- what comes of a bench
  abbrev pub course_of : Bench → List (List (List ℕ × M)) → Way M
  course_of bench lists = went 0 bench.entries.items (begun bench.panels.items lists)

  -- a host and what is kept beside it have come so far
  pub record IsAt (way : Way M) (held : HostState M) (course : Course) : Type 0 where
    pub held_is : held ≡ held_after answer way.calls
    pub rects_are : course.screen.rects.items ≡ way.rects
    pub keys_are : course.screen.keys ≡ way.keys
    pub pointer_is : course.screen.pointer ≡ way.pointer
    pub events_are : course.events.items ≡ way.events
    pub found_are : map told course.findings.items ≡ way.found

-- what a course ends with
pub record Ends {M : Type 0} (way : Way M) (course : Course) : Type 0 where
  pub events_are : course.events.items ≡ way.events
  pub found_are : map told course.findings.items ≡ way.found
