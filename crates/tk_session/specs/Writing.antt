-- Meaning. The text in which a session is written: always of the second format, with each script's lines counted.
use Rattle.std.specs.Prelude.{ℕ, ◌+◌, ◌==◌, if◌then◌else◌, List, [], ◌∷◌, ◌++◌, flat_map, codes, Option, Some, None, slice_get}
use Rattle.std.specs.Fmt.{decimal}
use Rattle.tk_base.specs.declared.budget.Budget.{Budget}
use Rattle.tk_base.specs.Names.{name_of}
use Rattle.tk_route.specs.declared.line.HostLine.{HostLine}
use Rattle.tk_route.specs.declared.line.HostLine.TheVariants.{Move, Press, Release, Keydown, Keyup, Focus, Rect as Placed}
use Rattle.tk_session.specs.Names.{kind_word}
use Rattle.tk_session.specs.Session.{Plan, heading, rect_fields}
use Rattle.tk_session.specs.declared.session.AliasLine.{AliasLine}
use Rattle.tk_session.specs.declared.session.AppBlock.{AppBlock}
use Rattle.tk_session.specs.declared.session.EventLine.{EventLine}
use Rattle.tk_session.specs.declared.stage.Format.TheVariants.{Second}

-- fields, each behind a blank
abbrev pub words : List (List ℕ) → List ℕ
words [] = []
words (field ∷ fields) = 32 ∷ (field ++ words fields)

-- a line of a first word and the fields behind it
abbrev pub line_text : List ℕ → List (List ℕ) → List ℕ
line_text first fields = first ++ (words fields ++ 10 ∷ [])

-- `TOTAL`, or `TOTAL/REFILL` where something is given back
abbrev pub budget_field : Budget → List ℕ
budget_field budget = if budget.refill == 0 then decimal budget.total else decimal budget.total ++ 47 ∷ decimal budget.refill

abbrev pub alias_text : AliasLine → List ℕ
alias_text alias = line_text (codes "alias") (alias.name ∷ kind_word alias.service.kind ∷ alias.service.config ∷ [])

-- how many lines a text has that ends with the last of them
abbrev pub line_count : List ℕ → ℕ
line_count [] = 1
line_count (byte ∷ bytes) = if byte == 10 then line_count bytes + 1 else line_count bytes

abbrev pub script_text : List ℕ → List ℕ
script_text script = line_text (codes "script") (decimal (line_count script) ∷ []) ++ (script ++ 10 ∷ [])

abbrev pub app_line_text : AppBlock → List ℕ
app_line_text app =
    line_text (codes "app") (app.name ∷ decimal app.rect.x ∷ decimal app.rect.y ∷ decimal app.rect.width ∷ decimal app.rect.height ∷ budget_field app.budget ∷ [])

abbrev pub app_text : AppBlock → List ℕ
app_text app = app_line_text app ++ (flat_map alias_text app.aliases ++ script_text app.script)

-- the name of the application in a slot, or of none
abbrev pub name_in : Option AppBlock → List ℕ
name_in None = codes "-"
name_in (Some app) = app.name

abbrev pub name_at : List AppBlock → ℕ → List ℕ
name_at apps slot = name_in (slice_get apps slot)

-- the name of the key that goes down or up
abbrev pub key_name : HostLine → List ℕ
key_name (Keydown key) = name_of key
key_name (Keyup key) = name_of key
key_name _ = []

-- the fields of a line behind its moment, by how applications are called in their slots
abbrev pub fields_with : (ℕ → List ℕ) → HostLine → List (List ℕ)
fields_with name (Move x y) = codes "move" ∷ decimal x ∷ decimal y ∷ []
fields_with name (Press button) = codes "press" ∷ decimal button ∷ []
fields_with name (Release button) = codes "release" ∷ decimal button ∷ []
fields_with name (Keydown key) = codes "keydown" ∷ name_of key ∷ []
fields_with name (Keyup key) = codes "keyup" ∷ name_of key ∷ []
fields_with name (Focus None) = codes "focus" ∷ codes "-" ∷ []
fields_with name (Focus (Some slot)) = codes "focus" ∷ name slot ∷ []
fields_with name (Placed slot rect) = codes "rect" ∷ name slot ∷ rect_fields rect

abbrev pub event_fields : List AppBlock → HostLine → List (List ℕ)
event_fields apps line = fields_with (name_at apps) line

abbrev pub event_text : List AppBlock → EventLine → List ℕ
event_text apps event = line_text (decimal event.moment) (event_fields apps event.line)

-- the text of a session
abbrev pub text_of : Plan → List ℕ
text_of plan =
    (heading Second ++ 10 ∷ []) ++ (flat_map app_text plan.apps
    ++ (codes "events" ++ 10 ∷ [])
    ++ (flat_map (event_text plan.apps) plan.events
    ++ line_text (decimal plan.end) (codes "end" ∷ [])))
