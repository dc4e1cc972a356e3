-- Meaning. When the calls of a host are refused, and with which fault. Of a `Part`, a word of steps, only its application is asked.
use Rattle.std.specs.Prelude.{IsTrue, ◌≡◌, ℕ, ◌<◌, ◌≤◌, ◌⊎◌, List, [], ◌∷◌, length, Any}
use Rattle.tk_base.specs.Limits.{last_moment}
use Rattle.tk_base.specs.Rect.{SharePixel}
use Rattle.tk_base.specs.declared.rect.Rect.{Rect}
use Rattle.tk_route.specs.Limits.{most_applications}
use Rattle.tk_route.specs.Names.{IsAppInRange}
use Rattle.tk_route.specs.Refusals.{IsFirst, NoneApplies, Refuses, line_faults as faults_of_lines}
use Rattle.tk_route.specs.declared.fault.HostFault.{HostFault}
use Rattle.tk_route.specs.declared.fault.HostFault.TheVariants.{Refused, NoMemory}
use Rattle.tk_route.specs.declared.fault.LineFault.{LineFault}
use Rattle.tk_route.specs.declared.fault.LineFault.TheVariants.{Overlap, TimeBack, BadLine, NoApp, TooManyApps, NameTaken, Started, Ended, Broken}
use Rattle.tk_route.specs.declared.line.HostLine.{HostLine}
use Rattle.tk_app.specs.Part.{Part}
use Rattle.tk_host.specs.declared.phase.Phase.{Phase}
use Rattle.tk_host.specs.declared.phase.Phase.TheVariants.{Reached, Finished, Lost}
use Rattle.tk_host.specs.Spec.{Given, are_aliases, have_one_name, rect_of}
use Rattle.tk_host.specs.Held.{HostState, Hosted, reached}

-- A call is refused with the first fault that applies. Memory is asked for only where none does.
abbrev pub IsRefusal : (LineFault → Type 0) → List LineFault → HostFault → Type 0
IsRefusal Applies faults NoMemory = NoneApplies Applies faults
IsRefusal Applies faults (Refused found) = IsFirst Applies faults found

-- what a phase alone refuses
abbrev pub PhaseRefuses : Phase → LineFault → Type 0
PhaseRefuses Lost Broken = Unit {0}
PhaseRefuses (Finished moment) Ended = Unit {0}
PhaseRefuses (Reached moment) Started = Unit {0}
PhaseRefuses phase found = ⊥

-- A refused call leaves a host as it was, but for want of memory while applications run.
abbrev pub LeftBy : {M : Type 0} → HostFault → Hosted M → Hosted M → Type 0
LeftBy NoMemory old new = new.held.phase ≡ Lost
LeftBy (Refused found) old new = new ≡ old

-- what the applications that are there refuse in one more, in the order of the tests
abbrev pub app_faults : List LineFault
app_faults = BadLine ∷ TooManyApps ∷ NameTaken ∷ Overlap ∷ []

abbrev pub PartsRefuse : {M : Type 0} → List Rect → List (Part M) → Given M → LineFault → Type 0
PartsRefuse rects parts app BadLine = ¬ (IsAppInRange app.spec.name (rect_of app) app.spec.budget × IsTrue (are_aliases app.spec.aliases))
PartsRefuse rects parts app TooManyApps = most_applications ≤ length parts
PartsRefuse rects parts app NameTaken = Any (λ part. part.application.name ≡ app.spec.name) parts ⊎ IsTrue (have_one_name app.spec.aliases)
PartsRefuse rects parts app Overlap = Any (λ rect. SharePixel rect (rect_of app)) rects
PartsRefuse rects parts app found = ⊥

-- adding an application
abbrev pub add_faults : List LineFault
add_faults = Broken ∷ Ended ∷ Started ∷ app_faults

abbrev pub RefusesApp : {M : Type 0} → HostState M → Given M → LineFault → Type 0
RefusesApp held app Broken = PhaseRefuses held.phase Broken
RefusesApp held app Ended = PhaseRefuses held.phase Ended
RefusesApp held app Started = PhaseRefuses held.phase Started
RefusesApp held app found = PartsRefuse held.known.rects held.parts app found

-- starting the applications
abbrev pub start_faults : List LineFault
start_faults = Broken ∷ Ended ∷ Started ∷ []

-- going on to a moment, be it the last
abbrev pub moment_faults : List LineFault
moment_faults = Broken ∷ Ended ∷ BadLine ∷ TimeBack ∷ []

abbrev pub RefusesMoment : {M : Type 0} → HostState M → ℕ → LineFault → Type 0
RefusesMoment held moment BadLine = last_moment < moment
RefusesMoment held moment TimeBack = moment < reached held.phase
RefusesMoment held moment found = PhaseRefuses held.phase found

-- a line at a moment
abbrev pub line_faults : List LineFault
line_faults = Broken ∷ Ended ∷ faults_of_lines

abbrev pub RefusesLine : {M : Type 0} → HostState M → ℕ → HostLine → LineFault → Type 0
RefusesLine held moment line Broken = PhaseRefuses held.phase Broken
RefusesLine held moment line Ended = PhaseRefuses held.phase Ended
RefusesLine held moment line found = Refuses held.known.rects (reached held.phase) moment line found

-- the section of a slot
abbrev pub section_faults : List LineFault
section_faults = Broken ∷ NoApp ∷ []

abbrev pub RefusesSection : {M : Type 0} → HostState M → ℕ → LineFault → Type 0
RefusesSection held slot NoApp = length held.parts ≤ slot
RefusesSection held slot found = PhaseRefuses held.phase found

-- of a list of faults one alone is the first that applies, and where one is, not none does
abbrev pub HasOneFirst : (LineFault → Type 0) → List LineFault → Type 0
HasOneFirst Applies faults =
    (one other : LineFault) → IsFirst Applies faults one → (IsFirst Applies faults other → one ≡ other) × ¬ NoneApplies Applies faults

-- so it is of each call
pub record OneRefusal (M : Type 0) : Type 0 where
  pub add : (held : HostState M) (app : Given M) → HasOneFirst (RefusesApp held app) add_faults
  pub start : (phase : Phase) → HasOneFirst (PhaseRefuses phase) start_faults
  pub moment : (held : HostState M) (moment : ℕ) → HasOneFirst (RefusesMoment held moment) moment_faults
  pub line : (held : HostState M) (moment : ℕ) (line : HostLine) → HasOneFirst (RefusesLine held moment line) line_faults
  pub section : (held : HostState M) (slot : ℕ) → HasOneFirst (RefusesSection held slot) section_faults
