-- Meaning. What is known of the screen and the keyboard, and what follows from it.
use Rattle.std.specs.Prelude.{ℕ, ◌+◌, pos, ◌-ℤ◌, Bool, ◌||◌, if◌then◌else◌, List, Option, Some, None, slice_get, option_and_then}
use Rattle.tk_base.specs.declared.rect.Rect.{Rect}
use Rattle.tk_route.specs.Screen.{slot_at}
use Rattle.tk_route.specs.declared.buttons.Buttons.{Buttons}
use Rattle.tk_route.specs.declared.keys.ModifierKeys.{ModifierKeys}
use Rattle.tk_route.specs.declared.place.Place.{Place}
use Rattle.tk_route.specs.declared.place.Point.{Point}

-- what is known: the rectangles by slot, the moment reached, where the pointer is, which buttons are held, which application has the held
-- buttons, which has the keys, and which of the keys that count in a state are down
pub record Values : Type 0 where
  pub rects : List Rect
  pub moment : ℕ
  pub pointer : Option Point
  pub buttons : Buttons
  pub holder : Option ℕ
  pub focus : Option ℕ
  pub keys : ModifierKeys

-- ---- the state

-- the state that an event carries: Shift 1, Lock 2, Control 4, Mod1 8, Button1 256 to Button5 4096
abbrev pub bit : Bool → ℕ → ℕ
bit is_set value = if is_set then value else 0

abbrev pub state_of : ModifierKeys → Buttons → ℕ
state_of keys buttons =
    bit (keys.shift_left || keys.shift_right) 1
    + bit keys.lock 2
    + bit (keys.control_left || keys.control_right) 4
    + bit (keys.alt_left || keys.alt_right) 8
    + bit buttons.first 256
    + bit buttons.second 512
    + bit buttons.third 1024
    + bit buttons.fourth 2048
    + bit buttons.fifth 4096

-- ---- the pointer

-- the slot of the application under the pointer
abbrev pub under : List Rect → Option Point → Option ℕ
under rects pointer = option_and_then (slot_at rects) pointer

-- where the pointer is for an application, from its rectangle's corner
abbrev pub local_in : Point → ℕ → Option Rect → Option Place
local_in point slot None = None
local_in point slot (Some rect) = Some (record { slot = slot; x = pos point.x -ℤ pos rect.x; y = pos point.y -ℤ pos rect.y })

abbrev pub local : List Rect → Option Point → Option ℕ → Option Place
local rects pointer None = None
local rects None (Some slot) = None
local rects (Some point) (Some slot) = local_in point slot (slice_get rects slot)
