-- Meaning. How calls on a handle come out: the number that is answered, and what the handle keeps then.
use Rattle.std.specs.Prelude.{◌≡◌, ◌≢◌, ℕ, ◌≤◌, ◌<◌, ◌⊎◌, ◌++◌, ◌∷◌, [], ◌==◌, if◌then◌else◌, Bool, true, false, List, length, map, drop, Option, Some, None, Result, Ok, Err, slice_get, IsUtf8}
use Rattle.std.specs.Str.{is_utf8}
use Rattle.tcl_text.specs.Limits.{most_bytes}
use Rattle.tk_alias.specs.Names.{is_command_name, most_aliases}
use Rattle.tk_alias.specs.Replies.{Answer}
use Rattle.tk_alias.specs.Services.{answer_of}
use Rattle.tk_alias.specs.declared.service.Service.{Service}
use Rattle.tk_alias.specs.declared.service.ServiceKind.{ServiceKind}
use Rattle.tk_alias.specs.declared.service.ServiceKind.TheVariants.{Const, Upper, Table, Sum, Fail}
use Rattle.tk_app.specs.Section.{section}
use Rattle.tk_app.specs.declared.turns.Turn.{Turn}
use Rattle.tk_base.specs.declared.budget.Budget.{Budget}
use Rattle.tk_base.specs.declared.rect.Rect.{Rect}
use Rattle.tk_host.specs.Held.{AddApp, AdvanceTo, Call, End, Hosted, LineAt, Start, after_advance, after_end, after_line, after_start, held_after, turns_after, with_app}
use Rattle.tk_host.specs.Refusals.{PhaseRefuses, RefusesApp, RefusesLine, RefusesMoment, RefusesSection, add_faults, line_faults, moment_faults, section_faults, start_faults}
use Rattle.tk_host.specs.Sections.{sections_after}
use Rattle.tk_host.specs.Spec.{Given, given}
use Rattle.tk_host.specs.declared.phase.Phase.TheVariants.{Adding, Reached, Lost}
use Rattle.tk_base.specs.Names.{key_named}
use Rattle.tk_route.specs.Lines.{Line, at, values}
use Rattle.tk_route.specs.Refusals.{IsFirst, NoneApplies}
use Rattle.tk_route.specs.declared.fault.LineFault.{LineFault}
use Rattle.tk_route.specs.declared.fault.LineFault.TheVariants.{BadLine, NoApp, Started}
use Rattle.tk_route.specs.declared.line.HostLine.{HostLine}
use Rattle.tk_session.specs.declared.session.AppBlock.{AppBlock}
use Rattle.tk_session.specs.declared.session.EventLine.{EventLine}
use Rattle.tk_session.specs.OneLine.{IsLineOfEvent}
use Rattle.tk_session.specs.Session.{HasFault, IsEndLine, IsSession, Plan}
use Rattle.tkhost.specs.Sections.{program_sections}
use Rattle.tkhost_c.specs.declared.telling.HostTurn.{HostTurn}
use Rattle.tkhost_c.specs.declared.refusal.Refusal.{Refusal}
use Rattle.tkhost_c.specs.declared.refusal.Refusal.TheVariants.{Fault, NoMemory, NoHost, HasHost, TooSmall, NotStarted}
use Rattle.tkhost_c.specs.Keeps.{Keeps, is_begun}
use Rattle.tkhost_c.specs.Numbers.{number_for}

-- what an alias answers
abbrev pub answer_by : Service → List (List ℕ) → Answer
answer_by service args = answer_of service.kind service.config args

-- ---- handles

-- A call on a handle. One without a host is refused (65), and stays so; one with a host has one after it too. The number is that of an answer
-- that the call gives between what was kept and what is kept then.
abbrev pub On : Option Keeps → Option Keeps → ℕ → (Keeps → Keeps → Result (Unit {0}) Refusal → Type 0) → Type 0
On None new number Comes = (new ≡ None) × (number ≡ 65)
On (Some old) new number Comes = (kept : Keeps) × (new ≡ Some kept) × (answer : Result (Unit {0}) Refusal) × (number ≡ number_for answer) × Comes old kept answer

-- a new host, with no applications yet
abbrev pub fresh : ℕ → Keeps
fresh slice = record { host = record { held = held_after answer_by []; slice = slice; turns = []; asker = None }; apps = []; waiting = [] }

-- making a host: refused where the handle has one (66) and where the slice is 0 (36)
abbrev pub IsMade : ℕ → Option Keeps → Option Keeps → Result (Unit {0}) Refusal → Type 0
IsMade slice old new (Ok done) = (old ≡ None) × (1 ≤ slice) × (new ≡ Some (fresh slice))
IsMade slice old new (Err HasHost) = (old ≢ None) × (new ≡ old)
IsMade slice old new (Err (Fault fault)) = (fault ≡ BadLine) × (old ≡ None) × (slice ≡ 0) × (new ≡ None)
IsMade slice old new (Err NoMemory) = (old ≡ None) × (1 ≤ slice) × (new ≡ None)
IsMade slice old new (Err refusal) = ⊥

-- ---- calls of the host that run applications

-- only the host is another one
abbrev pub OnlyHost : Keeps → Keeps → Type 0
OnlyHost old new = (new.apps ≡ old.apps) × (new.waiting ≡ old.waiting)

-- Such a call is refused with the first fault that applies, and leaves all as it was. Want of memory breaks the host.
abbrev pub Runs : (LineFault → Type 0) → List LineFault → (Hosted Service → Hosted Service → Type 0) → Keeps → Keeps → Result (Unit {0}) Refusal → Type 0
Runs Applies faults Does old new (Ok done) = NoneApplies Applies faults × Does old.host new.host × OnlyHost old new
Runs Applies faults Does old new (Err (Fault fault)) = IsFirst Applies faults fault × (new ≡ old)
Runs Applies faults Does old new (Err NoMemory) = NoneApplies Applies faults × (new.host.held.phase ≡ Lost) × OnlyHost old new
Runs Applies faults Does old new (Err refusal) = ⊥

-- and one that wants a host that has begun is refused before the start (68)
abbrev pub RunsBegun : (LineFault → Type 0) → List LineFault → (Hosted Service → Hosted Service → Type 0) → Keeps → Keeps → Result (Unit {0}) Refusal → Type 0
RunsBegun Applies faults Does old new (Err NotStarted) = (old.host.held.phase ≡ Adding) × (new ≡ old)
RunsBegun Applies faults Does old new answer = (old.host.held.phase ≢ Adding) × Runs Applies faults Does old new answer

-- After any list of accepted calls a host holds each application as it is by itself, and lists the turns that follow from the steps of each.
abbrev pub Follows : Call Service → Hosted Service → Hosted Service → Type 0
Follows call old new =
    (calls : List (Call Service)) → old.held ≡ held_after answer_by calls
    → (new.held ≡ held_after answer_by (calls ++ call ∷ [])) × (new.turns ≡ turns_after answer_by old.slice calls call)

abbrev pub Starts : Keeps → Keeps → Result (Unit {0}) Refusal → Type 0
Starts old new answer = Runs (PhaseRefuses old.host.held.phase) start_faults (λ before after. (after ≡ after_start answer_by before) × Follows Start before after) old new answer

abbrev pub Advances : ℕ → Keeps → Keeps → Result (Unit {0}) Refusal → Type 0
Advances moment old new answer =
    RunsBegun (RefusesMoment old.host.held moment) moment_faults (λ before after. (after ≡ after_advance answer_by moment before) × Follows (AdvanceTo moment) before after) old new answer

abbrev pub Ends : ℕ → Keeps → Keeps → Result (Unit {0}) Refusal → Type 0
Ends moment old new answer =
    RunsBegun (RefusesMoment old.host.held moment) moment_faults (λ before after. (after ≡ after_end answer_by moment before) × Follows (End moment) before after) old new answer

-- a host after a line, whatever rectangles and lines came before
abbrev pub IsLined : ℕ → HostLine → Hosted Service → Hosted Service → Type 0
IsLined moment line before after =
    ((first : List Rect) (earlier : List Line) → before.held.known ≡ values first earlier → after ≡ after_line answer_by first earlier (at moment line) before)
    × Follows (LineAt moment line) before after

abbrev pub TakesLine : ℕ → HostLine → Keeps → Keeps → Result (Unit {0}) Refusal → Type 0
TakesLine moment line old new answer = RunsBegun (RefusesLine old.host.held moment line) line_faults (IsLined moment line) old new answer

-- the key that bytes name
abbrev pub key_named_by : List ℕ → Option ℕ
key_named_by name = if is_utf8 name then key_named name else None

-- a line of a key, by its name; a name that no key has is no line (36)
abbrev pub TakesKey : (ℕ → HostLine) → ℕ → Option ℕ → Keeps → Keeps → Result (Unit {0}) Refusal → Type 0
TakesKey line moment (Some key) old new answer = TakesLine moment (line key) old new answer
TakesKey line moment None old new answer = (answer ≡ Err (Fault BadLine)) × (new ≡ old)

-- a line of a session of format 2 behind `events`, of these applications; any other is none (36)
abbrev pub TakesText : List ℕ → Keeps → Keeps → Result (Unit {0}) Refusal → Type 0
TakesText line old new answer =
    ((event : EventLine) → IsLineOfEvent old.apps line event → TakesLine event.moment event.line old new answer)
    × ((moment : ℕ) → ((event : EventLine) → ¬ IsLineOfEvent old.apps line event) → IsEndLine line moment → Ends moment old new answer)
    × (((event : EventLine) → ¬ IsLineOfEvent old.apps line event) → ((moment : ℕ) → ¬ IsEndLine line moment) → (answer ≡ Err (Fault BadLine)) × (new ≡ old))

-- ---- adding

-- bytes that a text may have
pub record IsText (bytes : List ℕ) : Type 0 where
  pub utf8 : IsUtf8 bytes
  pub short : length bytes ≤ most_bytes

-- bytes that are read as a text, or refused (36)
abbrev pub ReadsText : List ℕ → Result (List ℕ) Refusal → Type 0
ReadsText bytes (Ok text) = IsText bytes × (text ≡ bytes)
ReadsText bytes (Err (Fault fault)) = (fault ≡ BadLine) × ¬ IsText bytes
ReadsText bytes (Err NoMemory) = Unit {0}
ReadsText bytes (Err refusal) = ⊥

-- the kinds of services by their numbers
abbrev pub kind_of : ℕ → Option ServiceKind
kind_of number =
    if number == 0 then Some Const else
    if number == 1 then Some Upper else
    if number == 2 then Some Table else
    if number == 3 then Some Sum else
    if number == 4 then Some Fail else None

-- an alias of a kind, a name and a configuration that are read, or refused (36)
abbrev pub ReadsAlias : Option ServiceKind → List ℕ → List ℕ → Result (List ℕ × Service) Refusal → Type 0
ReadsAlias kind name config (Ok alias) = IsText name × IsText config × (of : ServiceKind) × (kind ≡ Some of) × (alias ≡ (name, record { kind = of; config = config }))
ReadsAlias kind name config (Err (Fault fault)) = (fault ≡ BadLine) × ¬ (IsText name × IsText config × (kind ≢ None))
ReadsAlias kind name config (Err NoMemory) = Unit {0}
ReadsAlias kind name config (Err refusal) = ⊥

-- an alias that the next application gets
abbrev pub waits_too : List ℕ → ServiceKind → List ℕ → Keeps → Keeps
waits_too name kind config kept = record kept { waiting = kept.waiting ++ (name, record { kind = kind; config = config }) ∷ [] }

abbrev pub Pushes : (List ℕ × Service) → Keeps → Keeps → Result (Unit {0}) Refusal → Type 0
Pushes alias old new (Ok done) = new ≡ record old { waiting = old.waiting ++ alias ∷ [] }
Pushes alias old new (Err NoMemory) = new ≡ old
Pushes alias old new (Err refusal) = ⊥

-- Such an alias is refused where the host has begun (40), and where it has no kind, a name that no command has, a configuration that is no text,
-- or 64 before it (36).
abbrev pub Waits : Option ServiceKind → List ℕ → List ℕ → Keeps → Keeps → Result (Unit {0}) Refusal → Type 0
Waits kind name config old new (Ok done) =
    (old.host.held.phase ≡ Adding) × IsText name × IsText config × (is_command_name name ≡ true) × (length old.waiting < most_aliases)
    × (of : ServiceKind) × (kind ≡ Some of) × (new ≡ waits_too name of config old)
Waits kind name config old new (Err (Fault Started)) = (old.host.held.phase ≢ Adding) × (new ≡ old)
Waits kind name config old new (Err (Fault BadLine)) =
    (old.host.held.phase ≡ Adding) × ¬ (IsText name × IsText config × (is_command_name name ≡ true) × (length old.waiting < most_aliases) × (kind ≢ None)) × (new ≡ old)
Waits kind name config old new (Err NoMemory) = (old.host.held.phase ≡ Adding) × (new ≡ old)
Waits kind name config old new (Err refusal) = ⊥

-- what is kept of an application for the lines that name it
abbrev pub named_only : List ℕ → Rect → Budget → AppBlock
named_only name rect budget = record { name = name; rect = rect; budget = budget; aliases = []; script = [] }

-- and its script beside it, where both are texts
abbrev pub ReadsApp : List ℕ → Rect → List ℕ → Budget → Result (AppBlock × List ℕ) Refusal → Type 0
ReadsApp name rect script budget (Ok read) = IsText name × IsText script × (read.0 ≡ named_only name rect budget) × (read.1 ≡ script)
ReadsApp name rect script budget (Err (Fault fault)) = (fault ≡ BadLine) × ¬ (IsText name × IsText script)
ReadsApp name rect script budget (Err NoMemory) = Unit {0}
ReadsApp name rect script budget (Err refusal) = ⊥

-- a host with one application more, of a block with a script and aliases of its own
abbrev pub AddsWith : AppBlock → List ℕ → List (List ℕ × Service) → Keeps → Keeps → Result (Unit {0}) Refusal → Type 0
AddsWith block script aliases old new (Ok done) =
    NoneApplies (RefusesApp old.host.held (given block.name block.rect script block.budget aliases)) add_faults
    × (new ≡ record old { host = with_app (given block.name block.rect script block.budget aliases) old.host; apps = old.apps ++ block ∷ [] })
AddsWith block script aliases old new (Err (Fault fault)) = IsFirst (RefusesApp old.host.held (given block.name block.rect script block.budget aliases)) add_faults fault × (new ≡ old)
AddsWith block script aliases old new (Err NoMemory) = new ≡ old
AddsWith block script aliases old new (Err refusal) = ⊥

-- no alias waits any more
abbrev pub none_waits : Keeps → Keeps
none_waits kept = record kept { waiting = [] }

-- An application is added with the aliases that wait; whatever is answered, none waits then. It is refused where its name or script is no text (36), and
-- then with the host's first fault that applies.
abbrev pub Adds : List ℕ → Rect → List ℕ → Budget → Keeps → Keeps → Result (Unit {0}) Refusal → Type 0
Adds name rect script budget old new (Ok done) =
    IsText name × IsText script × NoneApplies (RefusesApp old.host.held (given name rect script budget old.waiting)) add_faults
    × (new ≡ record { host = with_app (given name rect script budget old.waiting) old.host; apps = old.apps ++ named_only name rect budget ∷ []; waiting = [] })
Adds name rect script budget old new (Err (Fault fault)) =
    (new ≡ none_waits old)
    × ((fault ≡ BadLine) × ¬ (IsText name × IsText script)
    ⊎ IsText name × IsText script × IsFirst (RefusesApp old.host.held (given name rect script budget old.waiting)) add_faults fault)
Adds name rect script budget old new (Err NoMemory) = new ≡ none_waits old
Adds name rect script budget old new (Err refusal) = ⊥

-- ---- what is told

-- A text is told into a buffer: its length, and where the buffer has room the text, in front of what was there. A buffer that is too small (67) stays.
abbrev pub Told : List ℕ → List ℕ → List ℕ → ℕ → Result (Unit {0}) Refusal → Type 0
Told text before after told (Ok done) = (length text ≤ length before) × (after ≡ text ++ drop (length text) before) × (told ≡ length text)
Told text before after told (Err TooSmall) = (length before < length text) × (after ≡ before) × (told ≡ length text)
Told text before after told (Err refusal) = ⊥

-- The section of an application, of a host that stays. Refused is what the host refuses (42, 37), and nothing is told then.
abbrev pub TellsSection : ℕ → List ℕ → List ℕ → ℕ → ℕ → Keeps → Keeps → Result (Unit {0}) Refusal → Type 0
TellsSection slot before after was told old new (Err (Fault fault)) =
    IsFirst (RefusesSection old.host.held slot) section_faults fault × (new ≡ old) × (after ≡ before) × (told ≡ was)
TellsSection slot before after was told old new (Err NoMemory) = (new ≡ old) × (after ≡ before) × (told ≡ was)
TellsSection slot before after was told old new answer =
    NoneApplies (RefusesSection old.host.held slot) section_faults × (new ≡ old)
    × (text : List ℕ) × (slice_get (map (λ part. section part.application) old.host.held.parts) slot ≡ Some text)
    × ((calls : List (Call Service)) → old.host.held ≡ held_after answer_by calls → slice_get (sections_after answer_by calls) slot ≡ Some text)
    × Told text before after told answer

-- the turns of the last call that ran applications, as a program in C has them
abbrev pub turn_of : Turn → HostTurn
turn_of turn = record { slot = turn.slot; steps = turn.steps }

-- They are told into a buffer of turns: how many there are, and where it has room all of them. One that is too small (67) stays.
abbrev pub TellsTurns : List HostTurn → List HostTurn → ℕ → Keeps → Keeps → Result (Unit {0}) Refusal → Type 0
TellsTurns before after told old new (Ok done) =
    (new ≡ old) × (length old.host.turns ≤ length before) × (after ≡ map turn_of old.host.turns ++ drop (length old.host.turns) before) × (told ≡ length old.host.turns)
TellsTurns before after told old new (Err TooSmall) =
    (new ≡ old) × (length before < length old.host.turns) × (after ≡ before) × (told ≡ length old.host.turns)
TellsTurns before after told old new (Err refusal) = ⊥

-- The slot of the application that asked for the memory that was refused. Where none did it is no application (37), and nothing is told.
abbrev pub TellsAsker : ℕ → ℕ → Keeps → Keeps → Result (Unit {0}) Refusal → Type 0
TellsAsker before after old new (Ok done) = (new ≡ old) × (old.host.asker ≡ Some after)
TellsAsker before after old new (Err (Fault fault)) = (new ≡ old) × (fault ≡ NoApp) × (old.host.asker ≡ None) × (after ≡ before)
TellsAsker before after old new (Err refusal) = ⊥

-- freeing
abbrev pub IsFreed : Option Keeps → Option Keeps → Result (Unit {0}) Refusal → Type 0
IsFreed old new (Ok done) = (old ≢ None) × (new ≡ None)
IsFreed old new (Err NoHost) = (old ≡ None) × (new ≡ None)
IsFreed old new (Err refusal) = ⊥

-- ---- whole sessions

-- A session's sections, one after another, told into a buffer as a text is. Refused are a slice of 0 (36), and what is no session: with its fault's number,
-- and the line is told in place of a length.
abbrev pub Plays : ℕ → List ℕ → List ℕ → List ℕ → ℕ → ℕ → Result (Unit {0}) Refusal → Type 0
Plays slice input before after was told (Err (Fault fault)) =
    (after ≡ before) × ((slice ≡ 0) × (fault ≡ BadLine) × (told ≡ 0) ⊎ (1 ≤ slice) × HasFault input fault told)
Plays slice input before after was told (Err NoMemory) = (after ≡ before) × (told ≡ was)
Plays slice input before after was told answer = (1 ≤ slice) × (plan : Plan) × IsSession input plan × Told (program_sections plan) before after told answer
