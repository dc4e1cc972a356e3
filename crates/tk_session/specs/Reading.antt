-- Steps. How a session is read, line by line: what the private contracts cite. What a session is stands in `Session`.
use Rattle.std.specs.Prelude.{◌≡◌, ℕ, ◌+◌, ◌-◌, Bool, true, false, ◌&&◌, ◌||◌, ◌==◌, nat_le, nat_lt, min, max, if◌then◌else◌, List, [], ◌∷◌, ◌++◌, length, map, codes, Option, Some, None, option_map, Result, Ok, Err, not}
use Rattle.std.specs.List.{list_any, list_all}
use Rattle.std.specs.Str.{is_utf8, bytes_eq}
use Rattle.std.specs.Char.{is_ascii_digit}
use Rattle.std.specs.Str.Parse.{digits_value}
use Rattle.tk_base.specs.Rect.{last_place, most_pixels}
use Rattle.tk_base.specs.declared.rect.Rect.{Rect}
use Rattle.tk_base.specs.Names.{key_named}
use Rattle.tk_route.specs.Lines.{rects_by}
use Rattle.tk_route.specs.Limits.{most_applications, most_steps}
use Rattle.tk_route.specs.Names.{is_name}
use Rattle.tk_route.specs.Refusals.{covers, names_nobody}
use Rattle.tk_route.specs.Screen.{shares_pixel}
use Rattle.tk_route.specs.declared.line.HostLine.{HostLine}
use Rattle.tk_route.specs.declared.line.HostLine.TheVariants.{Move, Press, Release, Keydown, Keyup, Focus, Rect as Placed}
use Rattle.tk_alias.specs.declared.service.ServiceKind.{ServiceKind}
use Rattle.tk_alias.specs.declared.service.ServiceKind.TheVariants.{Const, Upper, Table, Sum, Fail}
use Rattle.tk_route.specs.declared.fault.HostFault.{HostFault}
use Rattle.tk_route.specs.declared.fault.HostFault.TheVariants.{Refused, NoMemory}
use Rattle.tk_route.specs.declared.fault.LineFault.{LineFault}
use Rattle.tk_route.specs.declared.fault.LineFault.TheVariants.{BadLine, TooManyApps, NameTaken, TimeBack, NoApp, RectOverlap}
use Rattle.tk_route.specs.declared.fault.LineFault.TheVariants as faults
use Rattle.tk_session.specs.declared.fault.SessionFault.{SessionFault}
use Rattle.tk_session.specs.declared.fault.SessionFault.TheVariants as refusals
use Rattle.tk_session.specs.declared.screen.Screen.{Screen}
use Rattle.tk_session.specs.declared.session.AliasLine.{AliasLine}
use Rattle.tk_session.specs.declared.session.AppBlock.{AppBlock}
use Rattle.tk_base.specs.declared.budget.Budget.{Budget}
use Rattle.tk_session.specs.declared.session.EventLine.{EventLine}
use Rattle.tk_session.specs.declared.session.Head.{Head}
use Rattle.tk_session.specs.declared.stage.Format.{Format}
use Rattle.tk_session.specs.declared.stage.Format.TheVariants.{First, Second}
use Rattle.tk_session.specs.declared.stage.Stage.{Stage}
use Rattle.tk_session.specs.declared.stage.Stage.TheVariants as stages
use Rattle.tk_alias.specs.Names.{is_command_name, most_aliases}
use Rattle.tk_session.specs.Names.{slot_of}
use Rattle.tk_session.specs.Session.{heading, events, most_lines, Plan, rects_of}
use Rattle.tcl_text.specs.Limits.{most_bytes}
use Rattle.tk_base.specs.Limits.{last_moment}

infixl 10 ◌>>=◌
abbrev pub ◌>>=◌ : {A B : Type 0} → Option A → (A → Option B) → Option B
None >>= f = None
(Some x) >>= f = f x

-- what stands before the first such byte, and what stands after it
abbrev pub cut_at : ℕ → List ℕ → Option (List ℕ × List ℕ)
cut_at byte [] = None
cut_at byte (b ∷ bs) = if b == byte then Some ([], bs) else option_map (λ parts. (b ∷ parts.0, parts.1)) (cut_at byte bs)

-- something, with no 0 in front of anything
abbrev pub has_plain_front : List ℕ → Bool
has_plain_front [] = false
has_plain_front (c ∷ []) = true
has_plain_front (c ∷ d ∷ cs) = not (c == 48)

-- digits without a 0 in front
abbrev pub is_numeral : List ℕ → Bool
is_numeral text = list_all is_ascii_digit text && has_plain_front text

-- the number that a text spells, from least to most
abbrev pub number_of : ℕ → ℕ → List ℕ → Option ℕ
number_of least most text =
    if is_numeral text && nat_le least (digits_value 10 text) && nat_le (digits_value 10 text) most
    then Some (digits_value 10 text) else None

-- the number in the first field, and the fields after it
unfoldable pub number_field : ℕ → ℕ → List ℕ → Option (ℕ × List ℕ)
number_field least most text = do
  parts ← cut_at 32 text
  number ← number_of least most parts.0
  Some (number, parts.1)

unfoldable pub rect_field : List ℕ → Option (Rect × List ℕ)
rect_field text = do
  x ← number_field 0 most_pixels text
  y ← number_field 0 most_pixels x.1
  width ← number_field 1 most_pixels y.1
  height ← number_field 1 most_pixels width.1
  Some (record { x = x.0; y = y.0; width = width.0; height = height.0 }, height.1)

-- a rectangle that ends the text
unfoldable pub rect_of : List ℕ → Option Rect
rect_of text = do
  x ← number_field 0 most_pixels text
  y ← number_field 0 most_pixels x.1
  width ← number_field 1 most_pixels y.1
  height ← number_of 1 most_pixels width.1
  Some (record { x = x.0; y = y.0; width = width.0; height = height })

abbrev pub name_of : List ℕ → Option (List ℕ)
name_of field = if is_name field then Some field else None

-- a text that is UTF-8
abbrev pub utf8_of : List ℕ → Option (List ℕ)
utf8_of text = if is_utf8 text then Some text else None

-- what stands behind a word and a blank
abbrev pub behind : List ℕ → List ℕ → Option (List ℕ)
behind word line = cut_at 32 line >>= λ parts. if bytes_eq parts.0 word then Some parts.1 else None

-- a budget that is refilled by nothing
abbrev pub fixed_budget : ℕ → Budget
fixed_budget total = record { total = total; refill = 0 }

abbrev pub fixed_of : List ℕ → Option Budget
fixed_of field = option_map fixed_budget (number_of 0 most_steps field)

abbrev pub refilled_of : List ℕ × List ℕ → Option Budget
refilled_of parts = do
  total ← number_of 0 most_steps parts.0
  refill ← number_of 0 most_steps parts.1
  Some (record { total = total; refill = refill })

-- the budget of a field that was cut at its slash, if it has one
abbrev pub cut_budget : List ℕ → Option (List ℕ × List ℕ) → Option Budget
cut_budget field None = fixed_of field
cut_budget field (Some parts) = refilled_of parts

unfoldable pub budget_of : Format → List ℕ → Option Budget
budget_of First field = fixed_of field
budget_of Second field = cut_budget field (cut_at 47 field)

-- name, rectangle and budget
unfoldable pub app_line_of : Format → List ℕ → Option (List ℕ × Rect × Budget)
app_line_of format line = do
  fields ← behind (codes "app") line
  parts ← cut_at 32 fields
  name ← name_of parts.0
  rect ← rect_field parts.1
  budget ← budget_of format rect.1
  Some (name, rect.0, budget)

-- ---- aliases

abbrev pub service_kind : List ℕ → Option ServiceKind
service_kind word =
    if bytes_eq word (codes "const") then Some Const
    else (if bytes_eq word (codes "upper") then Some Upper
    else (if bytes_eq word (codes "table") then Some Table
    else (if bytes_eq word (codes "sum") then Some Sum
    else (if bytes_eq word (codes "fail") then Some Fail
    else None))))

abbrev pub config_of : List ℕ → Option (List ℕ)
config_of text = do
  config ← utf8_of text
  if nat_le (length config) most_bytes then Some config else None

-- the kind and the configuration of a text that was cut at its blank, if it has one
abbrev pub cut_service : List ℕ → Option (List ℕ × List ℕ) → Option (ServiceKind × List ℕ)
cut_service text None = do
  kind ← service_kind text
  Some (kind, [])
cut_service text (Some parts) = do
  kind ← service_kind parts.0
  config ← config_of parts.1
  Some (kind, config)

unfoldable pub service_of : List ℕ → Option (ServiceKind × List ℕ)
service_of text = cut_service text (cut_at 32 text)

abbrev pub command_name_of : List ℕ → Option (List ℕ)
command_name_of field = if is_command_name field then Some field else None

-- name, kind and configuration
unfoldable pub alias_line_of : List ℕ → Option (List ℕ × ServiceKind × List ℕ)
alias_line_of line = do
  fields ← behind (codes "alias") line
  parts ← cut_at 32 fields
  name ← command_name_of parts.0
  service ← service_of parts.1
  Some (name, service.0, service.1)

abbrev pub alias_of : (List ℕ × ServiceKind × List ℕ) → AliasLine
alias_of found = record { name = found.0; service = record { kind = found.1; config = found.2 } }

-- ---- events

unfoldable pub move_of : List ℕ → Option HostLine
move_of fields = do
  x ← number_field 0 last_place fields
  y ← number_of 0 last_place x.1
  Some (Move x.0 y)

abbrev pub button_of : List ℕ → Option ℕ
button_of field = number_of 1 5 field

abbrev pub key_of : List ℕ → Option ℕ
key_of field = utf8_of field >>= λ name. key_named name

abbrev pub app_of : List AppBlock → List ℕ → Option ℕ
app_of apps field = name_of field >>= λ name. Some (slot_of name apps)

unfoldable pub focus_of : List AppBlock → List ℕ → Option HostLine
focus_of apps field = if bytes_eq field (codes "-") then Some (Focus None) else app_of apps field >>= λ slot. Some (Focus (Some slot))

unfoldable pub placed_of : Format → List AppBlock → List ℕ → Option HostLine
placed_of First apps fields = None
placed_of Second apps fields = do
  parts ← cut_at 32 fields
  slot ← app_of apps parts.0
  rect ← rect_of parts.1
  Some (Placed slot rect)

-- what the word of an event and the fields behind it say
unfoldable pub event_of : Format → List AppBlock → List ℕ → List ℕ → Option HostLine
event_of format apps word fields =
    if bytes_eq word (codes "move") then move_of fields
    else (if bytes_eq word (codes "press") then option_map Press (button_of fields)
    else (if bytes_eq word (codes "release") then option_map Release (button_of fields)
    else (if bytes_eq word (codes "keydown") then option_map Keydown (key_of fields)
    else (if bytes_eq word (codes "keyup") then option_map Keyup (key_of fields)
    else (if bytes_eq word (codes "focus") then focus_of apps fields
    else (if bytes_eq word (codes "rect") then placed_of format apps fields
    else None))))))

unfoldable pub event_line_of : Format → List AppBlock → List ℕ → Option EventLine
event_line_of format apps line = do
  moment ← number_field 0 last_moment line
  parts ← cut_at 32 moment.1
  event ← event_of format apps parts.0 parts.1
  Some (record { moment = moment.0; line = event })

unfoldable pub script_line_of : List ℕ → Option ℕ
script_line_of line = do
  count ← behind (codes "script") line
  number_of 0 most_lines count

unfoldable pub end_line_of : List ℕ → Option ℕ
end_line_of line = do
  parts ← cut_at 32 line
  moment ← number_of 0 last_moment parts.0
  if bytes_eq parts.1 (codes "end") then Some moment else None

abbrev pub is_taken : List ℕ → List AppBlock → Bool
is_taken name apps = list_any (λ app. bytes_eq app.name name) apps

abbrev pub is_covered : Rect → List AppBlock → Bool
is_covered rect apps = list_any (λ app. shares_pixel app.rect rect) apps

-- what keeps an application from coming after apps
abbrev pub hindrance : List AppBlock → List ℕ → Rect → Option LineFault
hindrance apps name rect =
    if nat_le most_applications (length apps) then Some TooManyApps else
    if is_taken name apps then Some NameTaken else
    if is_covered rect apps then Some faults.Overlap else None

-- ---- aliases beside aliases

abbrev pub is_served : List ℕ → List AliasLine → Bool
is_served name aliases = list_any (λ alias. bytes_eq alias.name name) aliases

-- what keeps an alias from coming after aliases
abbrev pub alias_hindrance : List AliasLine → List ℕ → Option LineFault
alias_hindrance aliases name = if nat_le most_aliases (length aliases) then Some BadLine else (if is_served name aliases then Some NameTaken else None)

-- ---- events beside events

-- what keeps an event from coming after those that led to a moment and to these rectangles
abbrev pub event_hindrance : Screen → EventLine → Option LineFault
event_hindrance screen event =
    if nat_lt event.moment screen.moment then Some TimeBack
    else (if names_nobody screen.rects event.line then Some NoApp
    else (if covers screen.rects event.line then Some RectOverlap
    else None))

-- the screen after an event
abbrev pub moved : Screen → EventLine → Screen
moved screen event = record { moment = event.moment; rects = rects_by event.line screen.rects }

-- ---- steps

abbrev pub block_of : Head → List ℕ → AppBlock
block_of head script = record { name = head.name; rect = head.rect; budget = head.budget; aliases = head.aliases; script = script }

-- the stage after the last line of an application
abbrev pub closed : Format → List AppBlock → Head → List ℕ → Stage
closed format apps head script = stages.Block format (apps ++ block_of head script ∷ [])

-- the lines of a script so far, none before its first, with one more
abbrev pub with_line : Option (List ℕ) → List ℕ → List ℕ
with_line None line = line
with_line (Some text) line = text ++ 10 ∷ line

abbrev pub heading_step : List ℕ → Result Stage LineFault
heading_step line =
    if bytes_eq line (heading First) then Ok (stages.Block First [])
    else (if bytes_eq line (heading Second) then Ok (stages.Block Second [])
    else Err BadLine)

abbrev pub admitted : Format → List AppBlock → (List ℕ × Rect × Budget) → Option LineFault → Result Stage LineFault
admitted format apps app (Some fault) = Err fault
admitted format apps app None = Ok (stages.Script format apps (record { name = app.0; rect = app.1; budget = app.2; aliases = [] }))

abbrev pub app_step : Format → List AppBlock → Option (List ℕ × Rect × Budget) → Result Stage LineFault
app_step format apps None = Err BadLine
app_step format apps (Some app) = admitted format apps app (hindrance apps app.0 app.1)

-- the stage at the first event
abbrev pub opened : Format → List AppBlock → Stage
opened format apps = stages.Event format apps (record { moment = 0; rects = rects_of apps }) []

abbrev pub block_step : Format → List AppBlock → List ℕ → Result Stage LineFault
block_step format apps line = if bytes_eq line events then Ok (opened format apps) else app_step format apps (app_line_of format line)

abbrev pub count_step : Format → List AppBlock → Head → Option ℕ → Result Stage LineFault
count_step format apps head None = Err BadLine
count_step format apps head (Some count) =
    if count == 0 then Ok (closed format apps head []) else Ok (stages.Text format apps head count None)

-- an application with one alias more
abbrev pub joined : Head → AliasLine → Head
joined head alias = record head { aliases = head.aliases ++ alias ∷ [] }

abbrev pub alias_admitted : Format → List AppBlock → Head → AliasLine → Option LineFault → Result Stage LineFault
alias_admitted format apps head alias (Some fault) = Err fault
alias_admitted format apps head alias None = Ok (stages.Script format apps (joined head alias))

abbrev pub alias_step : Format → List AppBlock → Head → List ℕ → Option (List ℕ × ServiceKind × List ℕ) → Result Stage LineFault
alias_step format apps head line None = count_step format apps head (script_line_of line)
alias_step format apps head line (Some found) = alias_admitted format apps head (alias_of found) (alias_hindrance head.aliases found.0)

abbrev pub script_step : Format → List AppBlock → Head → List ℕ → Result Stage LineFault
script_step format apps head line = alias_step format apps head line (alias_line_of line)

-- the stage after one of the left lines of a script, with which the script so far is this
abbrev pub text_read : Format → List AppBlock → Head → ℕ → List ℕ → Stage
text_read format apps head left script =
    if nat_le left 1 then closed format apps head script else stages.Text format apps head (left - 1) (Some script)

abbrev pub text_step : Format → List AppBlock → Head → ℕ → Option (List ℕ) → List ℕ → Result Stage LineFault
text_step format apps head left script line =
    if is_utf8 line && nat_le (length (with_line script line)) most_bytes
    then Ok (text_read format apps head left (with_line script line)) else Err BadLine

abbrev pub moment_step : List AppBlock → Screen → List EventLine → Option ℕ → Result Stage LineFault
moment_step apps screen told None = Err BadLine
moment_step apps screen told (Some moment) = if nat_lt moment screen.moment then Err TimeBack else Ok (stages.Whole apps told moment)

abbrev pub event_admitted : Format → List AppBlock → Screen → List EventLine → EventLine → Option LineFault → Result Stage LineFault
event_admitted format apps screen told event (Some fault) = Err fault
event_admitted format apps screen told event None = Ok (stages.Event format apps (moved screen event) (told ++ event ∷ []))

abbrev pub event_or_end : Format → List AppBlock → Screen → List EventLine → List ℕ → Option EventLine → Result Stage LineFault
event_or_end format apps screen told line None = moment_step apps screen told (end_line_of line)
event_or_end format apps screen told line (Some event) = event_admitted format apps screen told event (event_hindrance screen event)

abbrev pub event_step : Format → List AppBlock → Screen → List EventLine → List ℕ → Result Stage LineFault
event_step format apps screen told line = event_or_end format apps screen told line (event_line_of format apps line)

-- the stage after one more line, or what is wrong with it
abbrev pub step : Stage → List ℕ → Result Stage LineFault
step stages.Heading line = heading_step line
step (stages.Block format apps) line = block_step format apps line
step (stages.Script format apps head) line = script_step format apps head line
step (stages.Text format apps head left script) line = text_step format apps head left script line
step (stages.Event format apps screen told) line = event_step format apps screen told line
step (stages.Whole apps told end) line = Err BadLine

-- what a step returned is what the definition tells, unless memory was refused
abbrev pub StepGives : Result Stage HostFault → Result Stage LineFault → Type 0
StepGives (Ok stage) told = told ≡ Ok stage
StepGives (Err NoMemory) told = Unit {0}
StepGives (Err (Refused fault)) told = told ≡ Err fault

-- the end of the text at a stage, as the line of this number
abbrev pub finished : Stage → ℕ → Result Plan (LineFault × ℕ)
finished (stages.Whole apps told end) number = Ok (record { apps = apps; events = told; end = end })
finished stages.Heading number = Err (BadLine, number)
finished (stages.Block format apps) number = Err (BadLine, number)
finished (stages.Script format apps head) number = Err (BadLine, number)
finished (stages.Text format apps head left script) number = Err (BadLine, number)
finished (stages.Event format apps screen told) number = Err (BadLine, number)

abbrev pub and_on : Result Stage LineFault → ℕ → (Stage → Result Plan (LineFault × ℕ)) → Result Plan (LineFault × ℕ)
and_on (Ok stage) number rest = rest stage
and_on (Err fault) number rest = Err (fault, number)

-- what the lines tell from a stage on, after so many lines
abbrev pub run : Stage → ℕ → List (List ℕ) → Result Plan (LineFault × ℕ)
run stage number [] = finished stage (number + 1)
run stage number (line ∷ lines) = and_on (step stage line) (number + 1) (λ next. run next (number + 1) lines)

-- what reading lines returned is what they tell, unless memory was refused
abbrev pub Reads : Result (List AppBlock × List EventLine × ℕ) SessionFault → Result Plan (LineFault × ℕ) → Type 0
Reads (Ok found) told = told ≡ Ok (record { apps = found.0; events = found.1; end = found.2 })
Reads (Err refusals.NoMemory) told = Unit {0}
Reads (Err (refusals.Refused fault line)) told = told ≡ Err (fault, line)
