-- Meaning. Who gets the presses and the keys of a person.
use Rattle.std.specs.Prelude.{ℕ, ◌-◌, Bool, ◌&&◌, if◌then◌else◌, List, [], ◌∷◌, ◌++◌, codes, Option, Some, None, position, slice_get}
use Rattle.tk_app.specs.Inspection.{focus_of}
use Rattle.tk_app.specs.Seen.{Meaning}
use Rattle.tk_base.specs.declared.rect.Rect.{Rect}
use Rattle.tk_host.specs.Held.{Call, HostState, held_after}
use Rattle.tk_host.specs.Inspection.{seen}
use Rattle.tk_route.specs.Screen.{is_within}
use Rattle.tk_route.specs.declared.line.HostLine.{HostLine}
use Rattle.tk_route.specs.declared.line.HostLine.TheVariants.{Press, Keydown}
use Rattle.tk_session.specs.declared.session.AppBlock.{AppBlock}
use Rattle.panels.specs.Course.{section_at}
use Rattle.panels.specs.Panes.{has_point}
use Rattle.panels.specs.Shapes.{Drawn, shapes_of}
use Rattle.panels_film.specs.declared.pointed.Getter.{Getter}
use Rattle.panels_film.specs.declared.pointed.Getter.TheVariants as getters
use Rattle.panels.specs.declared.screen.Spot.{Spot}
use Rattle.panels_film.specs.Screens.{Known}
use Rattle.panels_text.specs.Lines.{name_at}
use Rattle.panels_text.specs.Texts.{text_of}

-- who gets a line: nobody, as the pointer has come nowhere or is in no panel, or no panel has the keyboard; or a window of the panel in a slot
pub data Told : Type 0 where
  NoPointer : Told
  NoPanel : Told
  NoKeyboard : Told
  Pointed : ℕ → List ℕ → Told
  Focused : ℕ → List ℕ → Told

abbrev pub told : Getter → Told
told getters.NoPointer = NoPointer
told getters.NoPanel = NoPanel
told getters.NoKeyboard = NoKeyboard
told (getters.Pointed slot path) = Pointed slot path.items
told (getters.Focused slot path) = Focused slot path.items

-- the slot of the panel that gets it
abbrev pub slot_of : Told → Option ℕ
slot_of NoPointer = None
slot_of NoPanel = None
slot_of NoKeyboard = None
slot_of (Pointed slot path) = Some slot
slot_of (Focused slot path) = Some slot

abbrev pub came_to : List AppBlock → ℕ → List ℕ → List ℕ
came_to panels slot path = codes "it came to " ++ (text_of path ++ (codes " of " ++ name_at panels slot))

-- who gets it in words, of these panels
abbrev pub words : List AppBlock → Told → List ℕ
words panels NoPointer = codes "the pointer has come nowhere"
words panels NoPanel = codes "it came to no panel"
words panels NoKeyboard = codes "no panel has the keyboard"
words panels (Pointed slot path) = came_to panels slot path
words panels (Focused slot path) = came_to panels slot path ++ codes ", which has the keyboard"

-- ---- the pointer

abbrev pub has : Spot → Rect → Bool
has spot rect = is_within rect.x rect.width spot.x && is_within rect.y rect.height spot.y

-- the slot of the panel that has a point of the screen
abbrev pub slot_at : List Rect → Spot → Option ℕ
slot_at rects spot = position (λ rect. has spot rect) rects

-- the last of these windows that shows a point of their panel, which is above the others: this one where none does
abbrev pub highest : ℕ → ℕ → List ℕ → List Drawn → List ℕ
highest x y path [] = path
highest x y path (window ∷ windows) = highest x y (if has_point x y window.pane then window.path else path) windows

-- the window under the pointer, in a panel with this section and this rectangle
abbrev pub at_window : List ℕ → ℕ → Rect → Spot → Told
at_window section slot rect spot = Pointed slot (highest (spot.x - rect.x) (spot.y - rect.y) (codes ".") (shapes_of section))

abbrev pub in_panel : List ℕ → ℕ → Spot → Option Rect → Told
in_panel section slot spot None = NoPanel
in_panel section slot spot (Some rect) = at_window section slot rect spot

module _ (section_of : ℕ → List ℕ) (rects : List Rect) where
  abbrev pub in_slot : Spot → Option ℕ → Told
  in_slot spot None = NoPanel
  in_slot spot (Some slot) = in_panel (section_of slot) slot spot (slice_get rects slot)

  abbrev pub at_pointer : Option Spot → Told
  at_pointer None = NoPointer
  at_pointer (Some spot) = in_slot spot (slot_at rects spot)

-- what is under the pointer, where the panels have these sections
abbrev pub under_pointer : (ℕ → List ℕ) → Known → Told
under_pointer section_of known = at_pointer section_of known.rects known.pointer

-- ---- the keyboard

abbrev pub or_empty : Option (List ℕ) → List ℕ
or_empty None = []
or_empty (Some path) = path

module _ {M : Type 0} where
  -- the path of the window with the focus of the panel in a slot, by its application's record: none where that window is gone
  abbrev pub focus_in : ℕ → HostState M → List ℕ
  focus_in slot held = or_empty (seen focus_of slot held)

  abbrev pub in_keys : HostState M → Option ℕ → Told
  in_keys held None = NoKeyboard
  in_keys held (Some slot) = Focused slot (focus_in slot held)

  -- who has the keyboard
  abbrev pub with_keys : HostState M → Known → Told
  with_keys held known = in_keys held known.keys

-- ---- lines

module _ {M : Type 0} (answer : M → Meaning) where
  -- who gets a line after these calls of the host: of presses and of keys that go down
  abbrev pub getter_of : List (Call M) → Known → HostLine → Option Told
  getter_of calls known (Press button) = Some (under_pointer (section_at answer calls) known)
  getter_of calls known (Keydown key) = Some (with_keys (held_after answer calls) known)
  getter_of calls known line = None
