-- Meaning. Sessions of both formats: the text of each, and the first faulty line of a text that is none.
use Rattle.std.specs.Prelude.{◌≡◌, ◌≢◌, ℕ, ◌+◌, ◌<◌, ◌≤◌, ◌==◌, true, if◌then◌else◌, List, [], ◌∷◌, ◌++◌, length, map, reverse, codes, ◌⊎◌, Option, Some, None, Result, Ok, Err}
use Rattle.std.specs.List.{AllByRecursion, join_with_byte, onto_first}
use Rattle.std.specs.Fmt.{decimal}
use Rattle.std.specs.Str.{IsUtf8}
use Rattle.tk_base.specs.Rect.{SharePixel}
use Rattle.tk_base.specs.declared.rect.Rect.{Rect}
use Rattle.tk_base.specs.Names.{key_named}
use Rattle.tk_route.specs.Lines.{Line, at, moment_after, rects_after}
use Rattle.tk_route.specs.Refusals.{Covers, IsInRange as IsLineInRange, NamesNobody}
use Rattle.tk_route.specs.declared.line.HostLine.{HostLine}
use Rattle.tk_route.specs.declared.line.HostLine.TheVariants.{Move, Press, Release, Keydown, Keyup, Focus, Rect as Placed}
use Rattle.tk_alias.specs.Names.{is_command_name, most_aliases}
use Rattle.tk_route.specs.Limits.{most_applications}
use Rattle.tk_route.specs.Names.{IsAppInRange, IsName}
use Rattle.tk_session.specs.Names.{kind_word, slot_of}
use Rattle.tk_session.specs.declared.session.AliasLine.{AliasLine}
use Rattle.tk_session.specs.declared.session.AppBlock.{AppBlock}
use Rattle.tk_base.specs.declared.budget.Budget.{Budget}
use Rattle.tk_session.specs.declared.session.EventLine.{EventLine}
use Rattle.tk_session.specs.declared.session.Head.{Head}
use Rattle.tk_session.specs.declared.stage.Format.{Format}
use Rattle.tk_session.specs.declared.stage.Format.TheVariants.{First, Second}
use Rattle.tk_route.specs.declared.fault.LineFault.{LineFault}
use Rattle.tk_route.specs.declared.fault.LineFault.TheVariants.{BadLine, TooManyApps, NameTaken, TimeBack, NoApp, RectOverlap}
use Rattle.tk_route.specs.declared.fault.LineFault.TheVariants as faults
use Rattle.tk_session.specs.declared.fault.SessionFault.{SessionFault}
use Rattle.tk_session.specs.declared.fault.SessionFault.TheVariants.{Refused, NoMemory}
use Rattle.tcl_text.specs.Limits.{most_bytes}
use Rattle.tk_base.specs.Limits.{last_moment}

-- ---- lines

-- The lines of a text. Each ends with an LF, or the last with the text.
abbrev pub lines_of : List ℕ → List (List ℕ)
lines_of [] = []
lines_of (byte ∷ bytes) = if byte == 10 then [] ∷ lines_of bytes else onto_first byte (lines_of bytes)

-- fields with a blank between neighbours
abbrev pub spelled : List (List ℕ) → List ℕ
spelled fields = join_with_byte 32 fields

abbrev pub heading : Format → List ℕ
heading First = codes "tkhost 1"
heading Second = codes "tkhost 2"

abbrev pub events : List ℕ
events = codes "events"

abbrev pub rect_fields : Rect → List (List ℕ)
rect_fields rect = decimal rect.x ∷ decimal rect.y ∷ decimal rect.width ∷ decimal rect.height ∷ []

-- ---- the lines of an application

-- the field of a budget: `TOTAL`, which is refilled by nothing, and in the second format `TOTAL/REFILL` too
abbrev pub SpellsBudget : Format → List ℕ → Budget → Type 0
SpellsBudget First field budget = (field ≡ decimal budget.total) × (budget.refill ≡ 0)
SpellsBudget Second field budget = (field ≡ decimal budget.total) × (budget.refill ≡ 0) ⊎ (field ≡ decimal budget.total ++ (47 ∷ decimal budget.refill))

-- `app NAME X Y WIDTH HEIGHT BUDGET`
pub record IsAppLine (format : Format) (line name : List ℕ) (rect : Rect) (budget : Budget) : Type 0 where
  pub steps : List ℕ
  pub spelling : line ≡ spelled (codes "app" ∷ name ∷ decimal rect.x ∷ decimal rect.y ∷ decimal rect.width ∷ decimal rect.height ∷ steps ∷ [])
  pub spells : SpellsBudget format steps budget
  pub values : IsAppInRange name rect budget

-- `alias NAME KIND CONFIGURATION`; where the configuration is empty the blank before it may be missing
abbrev pub SpellsAlias : List ℕ → AliasLine → Type 0
SpellsAlias line alias =
    (line ≡ spelled (codes "alias" ∷ alias.name ∷ kind_word alias.service.kind ∷ alias.service.config ∷ []))
    ⊎ (line ≡ spelled (codes "alias" ∷ alias.name ∷ kind_word alias.service.kind ∷ [])) × (alias.service.config ≡ [])

-- the ranges of an alias
pub record IsAliasInRange (alias : AliasLine) : Type 0 where
  pub named : is_command_name alias.name ≡ true
  pub utf8 : IsUtf8 alias.service.config
  pub short : length alias.service.config ≤ most_bytes

pub record IsAliasLine (line : List ℕ) (alias : AliasLine) : Type 0 where
  pub spelling : SpellsAlias line alias
  pub values : IsAliasInRange alias

-- how many lines a script has at most
abbrev pub most_lines : ℕ
most_lines = most_bytes + 1

-- `script COUNT`
pub record IsScriptLine (line : List ℕ) (count : ℕ) : Type 0 where
  pub spelling : line ≡ spelled (codes "script" ∷ decimal count ∷ [])
  pub count_range : count ≤ most_lines

-- the lines are those of the script, with an LF between neighbours
pub record IsScript (lines : List (List ℕ)) (script : List ℕ) : Type 0 where
  pub joined : script ≡ join_with_byte 10 lines
  pub utf8 : AllByRecursion IsUtf8 lines
  pub short : length script ≤ most_bytes

-- One line after another says one thing more. What a line may say rests on what was said before it.
abbrev pub AreSaid : {A : Type 0} → (List A → List ℕ → A → Type 0) → List A → List (List ℕ) → List A → Type 0
AreSaid Says before [] [] = Unit {0}
AreSaid Says before [] (x ∷ xs) = ⊥
AreSaid Says before (line ∷ lines) [] = ⊥
AreSaid Says before (line ∷ lines) (x ∷ xs) = Says before line x × AreSaid Says (before ++ x ∷ []) lines xs

-- an alias of the list has the name
abbrev pub IsServed : List ℕ → List AliasLine → Type 0
IsServed name [] = ⊥
IsServed name (alias ∷ aliases) = (alias.name ≡ name) ⊎ IsServed name aliases

-- what keeps an alias of this name from coming after aliases, the first in this order
abbrev pub HindersAlias : LineFault → List AliasLine → List ℕ → Type 0
HindersAlias BadLine aliases name = most_aliases ≤ length aliases
HindersAlias NameTaken aliases name = (length aliases < most_aliases) × IsServed name aliases
HindersAlias fault aliases name = ⊥

-- an alias of this name may come after aliases
pub record MayJoin (aliases : List AliasLine) (name : List ℕ) : Type 0 where
  pub room : length aliases < most_aliases
  pub new : ¬ IsServed name aliases

-- the line says that this alias comes after those before
abbrev pub SaysAlias : List AliasLine → List ℕ → AliasLine → Type 0
SaysAlias before line alias = IsAliasLine line alias × MayJoin before alias.name

-- the lines of an application before its script: the first, and those of its aliases
pub record IsOpening (format : Format) (lines : List (List ℕ)) (head : Head) : Type 0 where
  pub first : List ℕ
  pub others : List (List ℕ)
  pub parts : lines ≡ first ∷ others
  pub app : IsAppLine format first head.name head.rect head.budget
  pub aliases : AreSaid SaysAlias [] others head.aliases

abbrev pub head_of : AppBlock → Head
head_of app = record { name = app.name; rect = app.rect; budget = app.budget; aliases = app.aliases }

-- the lines of one application
pub record IsBlock (format : Format) (lines : List (List ℕ)) (app : AppBlock) : Type 0 where
  pub opening : List (List ℕ)
  pub counting : List ℕ
  pub texts : List (List ℕ)
  pub parts : lines ≡ opening ++ counting ∷ texts
  pub head : IsOpening format opening (head_of app)
  pub count : IsScriptLine counting (length texts)
  pub script : IsScript texts app.script

-- an application of the list has the name
abbrev pub IsTaken : List ℕ → List AppBlock → Type 0
IsTaken name [] = ⊥
IsTaken name (app ∷ apps) = (app.name ≡ name) ⊎ IsTaken name apps

-- an application of the list has a pixel of the rectangle
abbrev pub IsCovered : Rect → List AppBlock → Type 0
IsCovered rect [] = ⊥
IsCovered rect (app ∷ apps) = SharePixel app.rect rect ⊎ IsCovered rect apps

-- what keeps an application with this name and rectangle from coming after apps, the first in this order
abbrev pub Hinders : LineFault → List AppBlock → List ℕ → Rect → Type 0
Hinders TooManyApps apps name rect = most_applications ≤ length apps
Hinders NameTaken apps name rect = (length apps < most_applications) × IsTaken name apps
Hinders faults.Overlap apps name rect = (length apps < most_applications) × ¬ IsTaken name apps × IsCovered rect apps
Hinders fault apps name rect = ⊥

-- an application with this name and rectangle may come after apps
pub record MayFollow (apps : List AppBlock) (name : List ℕ) (rect : Rect) : Type 0 where
  pub room : length apps < most_applications
  pub new : ¬ IsTaken name apps
  pub apart : ¬ IsCovered rect apps

-- the lines are the blocks of apps, which come after the applications before
abbrev pub AreBlocks : Format → List AppBlock → List (List ℕ) → List AppBlock → Type 0
AreBlocks format before lines [] = lines ≡ []
AreBlocks format before lines (app ∷ apps) = (own : List (List ℕ)) × (others : List (List ℕ))
    × (lines ≡ own ++ others)
    × IsBlock format own app
    × MayFollow before app.name app.rect
    × AreBlocks format (before ++ app ∷ []) others apps

-- ---- the lines of the screen and the keyboard

-- the fields behind a moment say this
abbrev pub SayEvent : Format → List AppBlock → List (List ℕ) → HostLine → Type 0
SayEvent format apps fields (Move x y) = fields ≡ codes "move" ∷ decimal x ∷ decimal y ∷ []
SayEvent format apps fields (Press button) = fields ≡ codes "press" ∷ decimal button ∷ []
SayEvent format apps fields (Release button) = fields ≡ codes "release" ∷ decimal button ∷ []
SayEvent format apps fields (Keydown key) = (name : List ℕ) × (fields ≡ codes "keydown" ∷ name ∷ []) × IsUtf8 name × (key_named name ≡ Some key)
SayEvent format apps fields (Keyup key) = (name : List ℕ) × (fields ≡ codes "keyup" ∷ name ∷ []) × IsUtf8 name × (key_named name ≡ Some key)
SayEvent format apps fields (Focus None) = fields ≡ codes "focus" ∷ codes "-" ∷ []
SayEvent format apps fields (Focus (Some slot)) = (name : List ℕ) × (fields ≡ codes "focus" ∷ name ∷ []) × IsName name × (slot ≡ slot_of name apps)
SayEvent First apps fields (Placed slot rect) = ⊥
SayEvent Second apps fields (Placed slot rect) =
    (name : List ℕ) × (fields ≡ codes "rect" ∷ name ∷ rect_fields rect) × IsName name × (slot ≡ slot_of name apps)

-- `MOMENT move X Y` and the other lines of this kind
pub record IsEventLine (format : Format) (apps : List AppBlock) (line : List ℕ) (event : EventLine) : Type 0 where
  pub fields : List (List ℕ)
  pub spelling : line ≡ spelled (decimal event.moment ∷ fields)
  pub says : SayEvent format apps fields event.line
  pub moment_range : event.moment ≤ last_moment
  pub range : IsLineInRange event.line

-- what the router is told of events, the newest first
abbrev pub line_of : EventLine → Line
line_of event = at event.moment event.line

abbrev pub newest_first : List EventLine → List Line
newest_first told = reverse (map line_of told)

-- the moment reached by events, and the rectangles that the applications have then
abbrev pub moment_at : List EventLine → ℕ
moment_at told = moment_after (newest_first told)

abbrev pub rects_of : List AppBlock → List Rect
rects_of apps = map (λ app. app.rect) apps

abbrev pub rects_at : List AppBlock → List EventLine → List Rect
rects_at apps told = rects_after (rects_of apps) (newest_first told)

-- what keeps an event from coming after those told, the first in this order
abbrev pub HindersEvent : LineFault → List AppBlock → List EventLine → EventLine → Type 0
HindersEvent TimeBack apps told event = event.moment < moment_at told
HindersEvent NoApp apps told event = (moment_at told ≤ event.moment) × NamesNobody (rects_at apps told) event.line
HindersEvent RectOverlap apps told event =
    (moment_at told ≤ event.moment) × ¬ NamesNobody (rects_at apps told) event.line × Covers (rects_at apps told) event.line
HindersEvent fault apps told event = ⊥

-- an event may come after those told
pub record MayCome (apps : List AppBlock) (told : List EventLine) (event : EventLine) : Type 0 where
  pub in_order : moment_at told ≤ event.moment
  pub somebody : ¬ NamesNobody (rects_at apps told) event.line
  pub apart : ¬ Covers (rects_at apps told) event.line

-- the line says that this event comes after those before
abbrev pub SaysEvent : Format → List AppBlock → List EventLine → List ℕ → EventLine → Type 0
SaysEvent format apps before line event = IsEventLine format apps line event × MayCome apps before event

-- `MOMENT end`
pub record IsEndLine (line : List ℕ) (moment : ℕ) : Type 0 where
  pub spelling : line ≡ spelled (decimal moment ∷ codes "end" ∷ [])
  pub moment_range : moment ≤ last_moment

-- ---- sessions

-- what a session says: its applications, what happens, and the moment at which it ends
pub record Plan : Type 0 where
  pub apps : List AppBlock
  pub events : List EventLine
  pub end : ℕ

-- A place in a session: what the lines before it have told, and which line comes next.
pub data ReadingPoint : Type 0 where
  AtHeading : ReadingPoint
  -- the first line of an application, or `events`
  AtBlock : (format : Format) (apps : List AppBlock) → ReadingPoint
  -- a line of an alias, or the script line
  AtScript : (format : Format) (apps : List AppBlock) (head : Head) → ReadingPoint
  -- a line of a script of so many, of which these have come
  AtText : (format : Format) (apps : List AppBlock) (head : Head) (count : ℕ) (texts : List (List ℕ)) → ReadingPoint
  -- a line of the screen or the keyboard, or the end line
  AtEvent : (format : Format) (apps : List AppBlock) (told : List EventLine) → ReadingPoint
  -- nothing
  PastEnd : (session : Plan) → ReadingPoint

-- the lines before a place
abbrev pub Leads : List (List ℕ) → ReadingPoint → Type 0
Leads lines AtHeading = lines ≡ []
Leads lines (AtBlock format apps) = (blocks : List (List ℕ)) × (lines ≡ heading format ∷ blocks) × AreBlocks format [] blocks apps
Leads lines (AtScript format apps head) = (blocks : List (List ℕ)) × (opening : List (List ℕ))
    × (lines ≡ heading format ∷ blocks ++ opening)
    × AreBlocks format [] blocks apps × IsOpening format opening head × MayFollow apps head.name head.rect
Leads lines (AtText format apps head count texts) = (blocks : List (List ℕ)) × (opening : List (List ℕ)) × (counting : List ℕ)
    × (lines ≡ heading format ∷ blocks ++ (opening ++ counting ∷ texts))
    × AreBlocks format [] blocks apps × IsOpening format opening head × MayFollow apps head.name head.rect
    × IsScriptLine counting count × (length texts < count) × IsScript texts (join_with_byte 10 texts)
Leads lines (AtEvent format apps told) = (blocks : List (List ℕ)) × (others : List (List ℕ))
    × (lines ≡ heading format ∷ blocks ++ events ∷ others)
    × AreBlocks format [] blocks apps × AreSaid (SaysEvent format apps) [] others told
Leads lines (PastEnd session) = (format : Format) × (blocks : List (List ℕ)) × (others : List (List ℕ)) × (last : List ℕ)
    × (lines ≡ heading format ∷ blocks ++ events ∷ (others ++ last ∷ []))
    × AreBlocks format [] blocks session.apps × AreSaid (SaysEvent format session.apps) [] others session.events
    × IsEndLine last session.end × (moment_at session.events ≤ session.end)

-- what is wrong with a line at a place
abbrev pub IsFaulty : ReadingPoint → List ℕ → LineFault → Type 0
IsFaulty AtHeading line fault = (line ≢ heading First) × (line ≢ heading Second) × (fault ≡ BadLine)
IsFaulty (AtBlock format apps) line fault =
    ((line ≢ events) × ((name : List ℕ) (rect : Rect) (budget : Budget) → ¬ IsAppLine format line name rect budget) × (fault ≡ BadLine))
    ⊎ ((name : List ℕ) × (rect : Rect) × (budget : Budget) × IsAppLine format line name rect budget × Hinders fault apps name rect)
IsFaulty (AtScript format apps head) line fault =
    (((alias : AliasLine) → ¬ IsAliasLine line alias) × ((count : ℕ) → ¬ IsScriptLine line count) × (fault ≡ BadLine))
    ⊎ ((alias : AliasLine) × IsAliasLine line alias × HindersAlias fault head.aliases alias.name)
IsFaulty (AtText format apps head count texts) line fault = ((script : List ℕ) → ¬ IsScript (texts ++ line ∷ []) script) × (fault ≡ BadLine)
IsFaulty (AtEvent format apps told) line fault =
    (((event : EventLine) → ¬ IsEventLine format apps line event) × ((moment : ℕ) → ¬ IsEndLine line moment) × (fault ≡ BadLine))
    ⊎ ((event : EventLine) × IsEventLine format apps line event × HindersEvent fault apps told event)
    ⊎ ((moment : ℕ) × IsEndLine line moment × (moment < moment_at told) × (fault ≡ TimeBack))
IsFaulty (PastEnd session) line fault = fault ≡ BadLine

-- what is wrong with the end of the text at a place
abbrev pub IsCut : ReadingPoint → LineFault → Type 0
IsCut (PastEnd session) fault = ⊥
IsCut _ fault = fault ≡ BadLine

-- what is wrong at a place with what comes next, a line or the end of the text
abbrev pub IsRefused : ReadingPoint → List (List ℕ) → LineFault → Type 0
IsRefused place [] fault = IsCut place fault
IsRefused place (line ∷ lines) fault = IsFaulty place line fault

-- the aliases may come one after another behind those before
abbrev pub MayServe : List AliasLine → List AliasLine → Type 0
MayServe before [] = Unit {0}
MayServe before (alias ∷ aliases) = IsAliasInRange alias × MayJoin before alias.name × MayServe (before ++ alias ∷ []) aliases

-- the applications may come one after another behind those before
abbrev pub AreAllowed : List AppBlock → List AppBlock → Type 0
AreAllowed before [] = Unit {0}
AreAllowed before (app ∷ apps) =
    IsAppInRange app.name app.rect app.budget × MayServe [] app.aliases × MayFollow before app.name app.rect × AreAllowed (before ++ app ∷ []) apps

-- the events may come one after another behind those before
abbrev pub MayHappen : List AppBlock → List EventLine → List EventLine → Type 0
MayHappen apps before [] = Unit {0}
MayHappen apps before (event ∷ told) =
    (event.moment ≤ last_moment) × IsLineInRange event.line × MayCome apps before event × MayHappen apps (before ++ event ∷ []) told

-- what a session may say
pub record IsAllowed (plan : Plan) : Type 0 where
  pub apps_may : AreAllowed [] plan.apps
  pub events_may : MayHappen plan.apps [] plan.events
  pub in_order : moment_at plan.events ≤ plan.end
  pub end_range : plan.end ≤ last_moment

-- the bytes are a session, and this is what it says
abbrev pub IsSession : List ℕ → Plan → Type 0
IsSession bytes session = Leads (lines_of bytes) (PastEnd session)

-- The lines are no session: what is wrong with the first faulty one, and its number.
-- The one after the last stands for the end of the text.
abbrev pub IsAtFault : List (List ℕ) → LineFault → ℕ → Type 0
IsAtFault lines fault number = (before : List (List ℕ)) × (after : List (List ℕ)) × (place : ReadingPoint)
    × (lines ≡ before ++ after)
    × (number ≡ length before + 1)
    × Leads before place
    × IsRefused place after fault

-- the bytes are no session, for this fault in the line of this number
abbrev pub HasFault : List ℕ → LineFault → ℕ → Type 0
HasFault bytes fault number = IsAtFault (lines_of bytes) fault number

-- the answer to these bytes holds of them
abbrev pub IsAnswer : List ℕ → Result Plan SessionFault → Type 0
IsAnswer bytes (Ok session) = IsSession bytes session
IsAnswer bytes (Err (Refused fault line)) = HasFault bytes fault line
IsAnswer bytes (Err NoMemory) = Unit {0}
