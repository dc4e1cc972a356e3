-- Meaning. What a table of `[[do]]` says that a person does.
use Rattle.std.specs.Prelude.{ℕ, ◌+◌, Bool, true, false, ◌&&◌, ◌||◌, ◌==◌, nat_lt, if◌then◌else◌, List, [], ◌∷◌, ◌++◌, length, map, reverse, codes, Option, Some, None, option_map, unwrap_or}
use Rattle.std.specs.List.{slice_split}
use Rattle.std.specs.Str.{bytes_eq}
use Rattle.std.specs.String.{string_bytes}
use Rattle.tk_base.specs.Names.{key_named}
use Rattle.tk_route.specs.declared.line.HostLine.{HostLine}
use Rattle.tk_route.specs.declared.line.HostLine.TheVariants.{Move as Moved, Press as Pressed, Release as Released, Keydown, Keyup, Focus, Rect as Placed}
use Rattle.tk_session.specs.Reading.{◌>>=◌, event_line_of}
use Rattle.tk_session.specs.declared.session.AppBlock.{AppBlock}
use Rattle.tk_session.specs.declared.session.EventLine.{EventLine}
use Rattle.tk_session.specs.OneLine.{IsLineOfEvent}
use Rattle.tk_session.specs.Session.{IsEventLine}
use Rattle.toml.specs.Data.{Data, Members, get_member}
use Rattle.panels.specs.Typing.{chord, typed}
use Rattle.panels.specs.declared.bench.Gesture.{Gesture}
use Rattle.panels.specs.declared.bench.Gesture.TheVariants.{Pointer, Keys, Lines}
use Rattle.panels.specs.declared.bench.Target.{Target}
use Rattle.panels.specs.declared.bench.Touch.{Touch}
use Rattle.panels.specs.declared.bench.Touch.TheVariants.{Click, DoubleClick, Press, Release, Move}
use Rattle.panels_bench.specs.declared.doing.Way.{Way}
use Rattle.panels_bench.specs.declared.doing.Way.TheVariants.{Touches, Drags, Types, Strikes, Focuses, Places, Tells}
use Rattle.panels_bench.specs.Values.{all_said, are_known, counted, flag_if, if_there, number_if, one, rect_in, slot_in, slot_named, table_if, text_if, text_in}
use Rattle.panels_text.specs.Tables.{keys_of}

-- a window of a panel, and a place in it
pub record Aim : Type 0 where
  pub slot : ℕ
  pub window : List ℕ
  pub x : Option ℕ
  pub y : Option ℕ

abbrev pub aim : Target → Aim
aim target = record { slot = target.slot; window = string_bytes target.window; x = target.x; y = target.y }

-- what the pointer does, keys that are struck, and lines of a session
pub data Deed : Type 0 where
  PointerDeed : Aim → ℕ → Touch → ℕ → Bool → Deed
  KeysDeed : List HostLine → Deed
  LinesDeed : List HostLine → Deed

abbrev pub deed : Gesture → Deed
deed (Pointer pointing) = PointerDeed (aim pointing.target) pointing.moves pointing.touch pointing.button pointing.takes_keys
deed (Keys lines) = KeysDeed lines.items
deed (Lines lines) = LinesDeed lines.items

-- ---- the pointer

-- the largest place of the pointer in a window
abbrev pub most_place : ℕ
most_place = 65535

-- the window of a key, and the place in it of two others
abbrev pub aim_in : List AppBlock → Members → List ℕ → List ℕ → List ℕ → Option Aim
aim_in panels members window x y = do
  slot ← slot_in panels (get_member (codes "panel") members)
  path ← text_in (get_member window members)
  across ← number_if most_place (get_member x members)
  down ← number_if most_place (get_member y members)
  Some (record { slot = slot; window = path; x = across; y = down })

abbrev pub presses : Touch → Bool
presses Release = false
presses Move = false
presses touch = true

-- the pointer comes there at once, and the panel is given the keyboard where a button is pressed, unless the table says otherwise
abbrev pub pointing_in : List AppBlock → Touch → Members → Option Deed
pointing_in panels touch members = do
  target ← aim_in panels members (codes "window") (codes "x") (codes "y")
  button ← counted 1 5 (get_member (codes "button") members)
  keys ← flag_if (get_member (codes "focus") members)
  Some (PointerDeed target 1 touch button (unwrap_or keys (presses touch)))

-- the moves of a drag, 8 where it doesn't say how many, and the release that ends it
abbrev pub dropping_in : List AppBlock → Members → Option Deed
dropping_in panels members = do
  target ← aim_in panels members (codes "to") (codes "to-x") (codes "to-y")
  moves ← counted 8 1000 (get_member (codes "moves") members)
  button ← counted 1 5 (get_member (codes "button") members)
  Some (PointerDeed target moves Release button false)

unfoldable pub pointer_keys : List (List ℕ)
pointer_keys = codes "panel" ∷ codes "window" ∷ codes "x" ∷ codes "y" ∷ codes "button" ∷ codes "focus" ∷ []

abbrev pub touch_in : List AppBlock → Touch → Option Data → Option (List Deed)
touch_in panels touch value = table_if pointer_keys value >>= if_there (λ members. one (pointing_in panels touch members))

-- a drag is a press, and moves that end in a release
abbrev pub dragged : List AppBlock → Members → Option (List Deed)
dragged panels members = do
  press ← pointing_in panels Press members
  drop ← dropping_in panels members
  Some (press ∷ drop ∷ [])

unfoldable pub drag_keys : List (List ℕ)
drag_keys =
    codes "panel" ∷ codes "window" ∷ codes "x" ∷ codes "y" ∷ codes "to" ∷ codes "to-x" ∷ codes "to-y" ∷ codes "moves" ∷ codes "button" ∷ codes "focus" ∷ []

abbrev pub drag_in : List AppBlock → Option Data → Option (List Deed)
drag_in panels value = table_if drag_keys value >>= if_there (dragged panels)

-- ---- keys

-- the keys that type a text
abbrev pub typed_in : Option Data → Option (List Deed)
typed_in value = text_if value >>= if_there (λ text. one (option_map KeysDeed (typed text)))

-- the key that is held for a modifier
abbrev pub modifier : List ℕ → Option ℕ
modifier word =
    if bytes_eq word (codes "Control") || bytes_eq word (codes "Ctrl") then key_named (codes "Control_L")
    else if bytes_eq word (codes "Shift") then key_named (codes "Shift_L")
    else if bytes_eq word (codes "Alt") then key_named (codes "Alt_L")
    else None

abbrev pub held_by : List ℕ → Option ℕ → Option (List ℕ)
held_by word None = if length word == 0 then Some [] else None
held_by word (Some key) = Some (key ∷ [])

-- none for an empty word
abbrev pub held_for : List ℕ → Option (List ℕ)
held_for word = held_by word (modifier word)

abbrev pub chord_named : List ℕ → List ℕ → Option (List HostLine)
chord_named held name = option_map (chord held) (key_named name)

-- the first of these words is the key that is struck, and those behind it, the last first, are held
abbrev pub struck_words : List (List ℕ) → Option (List HostLine)
struck_words [] = None
struck_words (name ∷ others) = all_said (map held_for (reverse others)) >>= λ held. chord_named held name

-- the keys of `Control-Shift-s`
abbrev pub struck_by : List ℕ → Option (List HostLine)
struck_by text = struck_words (reverse (slice_split (λ byte. byte == 45) text))

abbrev pub struck_in : Option Data → Option (List Deed)
struck_in value = text_if value >>= if_there (λ text. one (option_map KeysDeed (struck_by text)))

-- ---- lines of a session

abbrev pub focus_of : List AppBlock → List ℕ → Option HostLine
focus_of panels name = if bytes_eq name (codes "-") then Some (Focus None) else option_map (λ slot. Focus (Some slot)) (slot_named panels name)

abbrev pub told : Option HostLine → Option (List Deed)
told line = one (option_map (λ said. LinesDeed (said ∷ [])) line)

-- the panel that has the keyboard, or none
abbrev pub focus_in : List AppBlock → Option Data → Option (List Deed)
focus_in panels value = text_if value >>= if_there (λ name. told (focus_of panels name))

-- a panel's rectangle
abbrev pub placing_of : List AppBlock → Members → Option HostLine
placing_of panels members = do
  slot ← slot_in panels (get_member (codes "panel") members)
  rect ← rect_in members
  Some (Placed slot rect)

unfoldable pub rect_keys : List (List ℕ)
rect_keys = codes "panel" ∷ codes "at" ∷ codes "size" ∷ []

abbrev pub placing_in : List AppBlock → Option Data → Option (List Deed)
placing_in panels value = table_if rect_keys value >>= if_there (λ members. told (placing_of panels members))

-- a line names no panel that isn't there
abbrev pub if_panel : ℕ → ℕ → HostLine → Option HostLine
if_panel count slot line = if nat_lt slot count then Some line else None

abbrev pub of_panels : ℕ → HostLine → Option HostLine
of_panels count (Focus None) = Some (Focus None)
of_panels count (Focus (Some slot)) = if_panel count slot (Focus (Some slot))
of_panels count (Placed slot rect) = if_panel count slot (Placed slot rect)
of_panels count (Moved x y) = Some (Moved x y)
of_panels count (Pressed button) = Some (Pressed button)
of_panels count (Released button) = Some (Released button)
of_panels count (Keydown key) = Some (Keydown key)
of_panels count (Keyup key) = Some (Keyup key)

-- what a line says, in the format of which `IsLineOfEvent` speaks
abbrev pub event_as : {format : _} → ((panels : List AppBlock) (line : List ℕ) (event : EventLine) → IsEventLine format panels line event → Unit {0}) → List AppBlock → List ℕ → Option EventLine
event_as {format} speaks panels line = event_line_of format panels line

abbrev pub event_in : List AppBlock → List ℕ → Option EventLine
event_in panels line = event_as (λ (own : List AppBlock) (text : List ℕ) (event : EventLine) (is : IsLineOfEvent own text event). tt) panels line

-- a line of a session that is written without its moment
abbrev pub line_of : List AppBlock → List ℕ → Option HostLine
line_of panels words = event_in panels (codes "0 " ++ words) >>= λ (event : EventLine). of_panels (length panels) event.line

abbrev pub line_in : List AppBlock → Option Data → Option (List Deed)
line_in panels value = text_if value >>= if_there (λ words. told (line_of panels words))

-- ---- a table

-- what a key says, by its way
abbrev pub deeds_by : List AppBlock → Way → Option Data → Option (List Deed)
deeds_by panels (Touches touch) value = touch_in panels touch value
deeds_by panels Drags value = drag_in panels value
deeds_by panels Types value = typed_in value
deeds_by panels Strikes value = struck_in value
deeds_by panels Focuses value = focus_in panels value
deeds_by panels Places value = placing_in panels value
deeds_by panels Tells value = line_in panels value

abbrev pub deeds_at : List AppBlock → Members → List ℕ → Way → Option (List Deed)
deeds_at panels members key way = deeds_by panels way (get_member key members)

-- the keys by which something is done, and how
unfoldable pub ways : List (List ℕ × Way)
ways =
    (codes "click", Touches Click) ∷
    (codes "double-click", Touches DoubleClick) ∷
    (codes "press", Touches Press) ∷
    (codes "release", Touches Release) ∷
    (codes "move", Touches Move) ∷
    (codes "drag", Drags) ∷
    (codes "type", Types) ∷
    (codes "key", Strikes) ∷
    (codes "focus", Focuses) ∷
    (codes "rect", Places) ∷
    (codes "line", Tells) ∷
    []

unfoldable pub keys : List (List ℕ)
keys = codes "time" ∷ codes "after" ∷ map (λ way. way.0) ways

abbrev pub deeds_of : List AppBlock → Members → Option (List Deed)
deeds_of panels members = all_said (map (λ way. deeds_at panels members way.0 way.1) ways)

-- what is done by a table, which has a moment and one more of its keys: by each key in its way
abbrev pub deeds_in : List AppBlock → Members → Option (List Deed)
deeds_in panels members = if are_known keys members && length (keys_of members) == 2 then deeds_of panels members else None
