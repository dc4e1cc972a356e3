-- Meaning. What a host holds, and what it holds after a list of calls. Words of steps: of what is under way in an application `Part`, `Work`, `Rests`, `added`
-- and `stage_done`, and by the code's jobs `alone` and `passed`, which are `alone_by` and `passed_by` by whatever meets the equations of `update` and *Settle*
-- (law `alone_by_settle`). Sections are said without them by `sections_by` (`Sections`), of what calls say: `given_by`, `phase_after` and `routed_by` here.
use Rattle.std.specs.Prelude.{ℕ, ◌+◌, List, [], ◌∷◌, ◌++◌, map, Option, None}
use Rattle.tk_base.specs.declared.rect.Rect.{Rect}
use Rattle.tk_base.specs.declared.local_event.LocalEvent.{LocalEvent}
use Rattle.tk_route.specs.Lines.{Line, at, values}
use Rattle.tk_route.specs.Routes.{routed, routes}
use Rattle.tk_route.specs.Values.{Values}
use Rattle.tk_route.specs.declared.line.HostLine.{HostLine}
use Rattle.tk_app.specs.declared.turns.Turn.{Turn}
use Rattle.tk_app.specs.Rounds.{turns_of}
use Rattle.tk_app.specs.Application.{Application, fresh}
use Rattle.tk_app.specs.Part.{Part, Work, Rests, added, stage_done}
use Rattle.tk_app.specs.Seen.{Meaning}
use Rattle.tk_app.specs.Spec.{Spec}
use Rattle.tk_host.specs.declared.phase.Phase.{Phase}
use Rattle.tk_host.specs.declared.phase.Phase.TheVariants.{Adding, Reached, Finished, Lost}
use Rattle.tk_host.specs.Spec.{Given, rect_of}
use Rattle.tk_host.specs.AloneByJob.{passed, alone}
use Rattle.tk_host.specs.Turns.{after_given, applications, stages_of, steps_at_start, turns_at_start, turns_given, turns_on_the_way}

-- A host: how far it has come, what it knows of the screen and the keyboard, with the applications' rectangles by their slots, and the applications,
-- each with what is under way in it.
pub record HostState (M : Type 0) : Type 0 where
  pub phase : Phase
  pub known : Values
  pub parts : List (Part M)

-- and beside that how many steps a turn has at most, the turns of the last call that ran applications, and the slot of the application that asked for the
-- memory that was refused, if it was while they ran
pub record Hosted (M : Type 0) : Type 0 where
  pub held : HostState M
  pub slice : ℕ
  pub turns : List Turn
  pub asker : Option ℕ

-- a call that was not refused
pub data Call (M : Type 0) : Type 0 where
  AddApp : Given M → Call M
  Start : Call M
  LineAt : ℕ → HostLine → Call M
  AdvanceTo : ℕ → Call M
  End : ℕ → Call M

-- what is known before the first line, of applications with these rectangles; and from the start on
abbrev pub known_by : Phase → List Rect → Values → Values
known_by Adding rects known = values rects []
known_by (Reached moment) rects known = known
known_by (Finished moment) rects known = known
known_by Lost rects known = known

-- who asked for memory is told only once it was refused
abbrev pub asker_in : Phase → Option ℕ → Option ℕ
asker_in Adding asker = None
asker_in (Reached moment) asker = None
asker_in (Finished moment) asker = None
asker_in Lost asker = asker

-- the moment that a host has come to
abbrev pub reached : Phase → ℕ
reached Adding = 0
reached (Reached moment) = moment
reached (Finished moment) = moment
reached Lost = 0

module _ {M : Type 0} where
  -- a host with one application more, whose script is still to be run
  abbrev pub with_app : Given M → Hosted M → Hosted M
  with_app app host = record host {
    held = record {
      phase = host.held.phase;
      known = values (host.held.known.rects ++ rect_of app ∷ []) [];
      parts = host.held.parts ++ added app.spec ∷ [];
    };
  }

  -- an application in which nothing is under way
  abbrev pub at_rest : Application M → Part M
  at_rest application = record { application = application; work = Rests }

  -- ── calls ──

  -- the applications that calls add, by their slots
  abbrev pub given_by : List (Call M) → List (Given M)
  given_by [] = []
  given_by (AddApp app ∷ calls) = app ∷ given_by calls
  given_by (Start ∷ calls) = given_by calls
  given_by (LineAt moment line ∷ calls) = given_by calls
  given_by (AdvanceTo moment ∷ calls) = given_by calls
  given_by (End moment ∷ calls) = given_by calls

  -- the rectangles that they came with
  abbrev pub first_rects : List (Call M) → List Rect
  first_rects calls = map rect_of (given_by calls)

  -- how far calls lead from a phase
  abbrev pub phase_after : Phase → List (Call M) → Phase
  phase_after phase [] = phase
  phase_after phase (AddApp app ∷ calls) = phase_after phase calls
  phase_after phase (Start ∷ calls) = phase_after (Reached 0) calls
  phase_after phase (LineAt moment line ∷ calls) = phase_after (Reached moment) calls
  phase_after phase (AdvanceTo moment ∷ calls) = phase_after (Reached moment) calls
  phase_after phase (End moment ∷ calls) = phase_after (Finished moment) calls

  -- the lines since the start, the newest first, behind earlier ones
  abbrev pub lines_after : List Line → List (Call M) → List Line
  lines_after earlier [] = earlier
  lines_after earlier (AddApp app ∷ calls) = lines_after earlier calls
  lines_after earlier (Start ∷ calls) = lines_after [] calls
  lines_after earlier (LineAt moment line ∷ calls) = lines_after (at moment line ∷ earlier) calls
  lines_after earlier (AdvanceTo moment ∷ calls) = lines_after earlier calls
  lines_after earlier (End moment ∷ calls) = lines_after earlier calls

  abbrev pub lines_of : List (Call M) → List Line
  lines_of calls = lines_after [] calls

  -- what is routed to the application in a slot, the newest event first
  abbrev pub routed_by : List (Call M) → ℕ → List LocalEvent
  routed_by calls slot = routed (first_rects calls) (lines_of calls) slot

  -- what an application still has to do: before the start its script
  abbrev pub work_in : Phase → Spec M → Work
  work_in Adding spec = (added spec).work
  work_in (Reached moment) spec = Rests
  work_in (Finished moment) spec = Rests
  work_in Lost spec = Rests

module _ {M : Type 0} (answer : M → Meaning) where
  -- A host at moment 0, whose applications have done what was under way in them: their scripts, and what comes of them. They took turns.
  abbrev pub after_start : Hosted M → Hosted M
  after_start host = record host {
    held = record { phase = Reached 0; known = host.held.known; parts = map (stage_done answer 0) host.held.parts };
    turns = turns_at_start answer host.slice host.held.parts;
  }

  -- an application that has done what is due of its own up to a moment
  abbrev pub with_passed : ℕ → Part M → Part M
  with_passed moment part = record part { application = passed answer moment part.application }

  -- A host whose applications have come to a moment, each by itself. They took turns on the way.
  abbrev pub gone_to : Phase → ℕ → Hosted M → Hosted M
  gone_to phase moment host = record host {
    held = record { phase = phase; known = host.held.known; parts = map (with_passed moment) host.held.parts };
    turns = turns_on_the_way answer host.slice moment (applications host.held.parts);
  }

  abbrev pub after_advance : ℕ → Hosted M → Hosted M
  after_advance moment host = gone_to (Reached moment) moment host

  -- and one that has come to its end there
  abbrev pub after_end : ℕ → Hosted M → Hosted M
  after_end moment host = gone_to (Finished moment) moment host

  -- all applications at the moment of a line, before its events
  abbrev pub before_line : ℕ → Hosted M → List (Application M)
  before_line moment host = map (passed answer moment) (applications host.held.parts)

  -- A host after a line that came after these, where the applications came with these rectangles: they have come to its moment, and those that it
  -- gives events to have done what comes of them.
  abbrev pub after_line : List Rect → List Line → Line → Hosted M → Hosted M
  after_line first earlier line host = record host {
    held = record {
      phase = Reached line.moment;
      known = values first (line ∷ earlier);
      parts = map at_rest (after_given answer 0 (routes first earlier line) (before_line line.moment host));
    };
    turns = turns_on_the_way answer host.slice line.moment (applications host.held.parts)
        ++ turns_given answer host.slice (stages_of (routes first earlier line)) (before_line line.moment host);
  }

  -- ── after a list of calls ──

  -- An application in a phase, by itself: a phase that memory was refused in says nothing of it.
  abbrev pub application_in : Phase → List LocalEvent → Spec M → Application M
  application_in Adding routed spec = fresh spec
  application_in (Reached moment) routed spec = alone answer spec routed moment
  application_in (Finished moment) routed spec = alone answer spec routed moment
  application_in Lost routed spec = fresh spec

  abbrev pub part_in : Phase → List LocalEvent → Given M → Part M
  part_in phase routed app = record { application = application_in phase routed app.spec; work = work_in phase app.spec }

  -- the applications from a slot on, each with the events that these lines route to it
  abbrev pub parts_in : Phase → List Rect → List Line → ℕ → List (Given M) → List (Part M)
  parts_in phase first lines slot [] = []
  parts_in phase first lines slot (app ∷ apps) = part_in phase (routed first lines slot) app ∷ parts_in phase first lines (slot + 1) apps

  -- what is held in a phase, of these applications and after these lines
  abbrev pub held_in : Phase → List (Given M) → List Line → HostState M
  held_in phase apps lines =
      record {
        phase = phase;
        known = known_by phase (map rect_of apps) (values (map rect_of apps) lines);
        parts = parts_in phase (map rect_of apps) lines 0 apps;
      }

  -- What a host holds after these calls: each application as it is by itself.
  abbrev pub held_after : List (Call M) → HostState M
  held_after calls = held_in (phase_after Adding calls) (given_by calls) (lines_of calls)

  -- The turns of a call that runs applications, after these calls: by the steps that each application takes by itself, and when.
  abbrev pub turns_after : ℕ → List (Call M) → Call M → List Turn
  turns_after slice calls (AddApp app) = []
  turns_after slice calls Start = turns_of slice (map (λ app. steps_at_start answer app.spec) (given_by calls))
  turns_after slice calls (LineAt moment line) =
      let apps = applications (held_after calls).parts in
      let given = routes (first_rects calls) (lines_of calls) (at moment line) in
      turns_on_the_way answer slice moment apps ++ turns_given answer slice (stages_of given) (map (passed answer moment) apps)
  turns_after slice calls (AdvanceTo moment) = turns_on_the_way answer slice moment (applications (held_after calls).parts)
  turns_after slice calls (End moment) = turns_on_the_way answer slice moment (applications (held_after calls).parts)
