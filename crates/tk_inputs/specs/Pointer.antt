-- Meaning. What the windows of an application are told of the pointer. A window is given by its way: the numbers of its ancestors from the main
-- window on, and then its own. The way of a window that is gone, and that of no window, is empty.
use Rattle.std.specs.Prelude.{ℕ, Bool, true, false, not, ◌==◌, if◌then◌else◌, List, [], ◌∷◌, ◌++◌, filter, Option, Some, None}
use Rattle.tk_route.specs.Buttons.{is_any_held, with_pressed, with_released}
use Rattle.tk_route.specs.Routes.{is_same}
use Rattle.tk_inputs.specs.declared.pointer_event.PointerEvent.{PointerEvent}
use Rattle.tk_inputs.specs.declared.pointer_event.PointerKind.{PointerKind}
use Rattle.tk_inputs.specs.declared.pointer_event.PointerKind.TheVariants.{Crossing, Motion, Press, Release}
use Rattle.tk_inputs.specs.declared.pointer_event.CrossingKind.TheVariants.{Enter, Leave}
use Rattle.tk_inputs.specs.declared.pointer_event.CrossingDetail.TheVariants.{Ancestor}
use Rattle.tk_inputs.specs.declared.pointer.Pointer.{Pointer}
use Rattle.tk_inputs.specs.Crossings.{crossing, crossings_of}

-- at first the pointer is in no window, and no button is held
abbrev pub outside_window : Pointer
outside_window = record {
  window = None;
  is_left = false;
  buttons = record { first = false; second = false; third = false; fourth = false; fifth = false };
}

-- the window at the end of a way, if there is one
abbrev pub end_of : List ℕ → Option ℕ
end_of [] = None
end_of (window ∷ []) = Some window
end_of (window ∷ inner ∷ way) = end_of (inner ∷ way)

-- the event of a window, if there is one
abbrev pub to : PointerKind → Option ℕ → List PointerEvent
to kind None = []
to kind (Some window) = record { window = window; kind = kind } ∷ []

-- ---- while no button is held

-- the pointer is in the window of this way from now on
abbrev pub put_into : List ℕ → Pointer → Pointer
put_into under pointer = record pointer { window = end_of under; is_left = false }

-- A move within a window is a motion, and one to another crosses borders; it gives no motion then.
abbrev pub moved_free : List ℕ → List ℕ → List PointerEvent
moved_free way under = if is_same (end_of way) (end_of under) then to Motion (end_of under) else crossings_of way under

-- ---- while a button is held: all goes to the window in which the first was pressed

-- The point comes back into that window, or goes out of it: told once, before the motion.
abbrev pub border_of : Bool → Bool → ℕ → List PointerEvent
border_of true is_in window = if is_in then crossing Enter Ancestor window ∷ [] else []
border_of false is_in window = if is_in then [] else crossing Leave Ancestor window ∷ []

abbrev pub moved_held : Bool → Option ℕ → Option ℕ → List PointerEvent
moved_held is_left None under = []
moved_held is_left (Some window) under = border_of is_left (is_same (Some window) under) window ++ to Motion (Some window)

-- a move, by the way to the pointer's window and the one to the window under the point
abbrev pub moved_told : List ℕ → List ℕ → Pointer → List PointerEvent
moved_told way under pointer = if is_any_held pointer.buttons then moved_held pointer.is_left (end_of way) (end_of under) else moved_free way under

-- whether the point has left the window that gets all, where there is one
abbrev pub left_after : Bool → Option ℕ → Option ℕ → Bool
left_after is_left None under = is_left
left_after is_left (Some window) under = not (is_same (Some window) under)

abbrev pub moved : List ℕ → List ℕ → Pointer → Pointer
moved way under pointer =
    if is_any_held pointer.buttons then record pointer { is_left = left_after pointer.is_left (end_of way) (end_of under) }
    else put_into under pointer

-- ---- presses and releases

-- The first press brings the pointer to the window under the point, which gets all until no button is held; the borders that it crosses are told first.
abbrev pub pressed_told : ℕ → List ℕ → List ℕ → Pointer → List PointerEvent
pressed_told button way under pointer =
    if is_any_held pointer.buttons then to (Press button) (end_of way) else crossings_of way under ++ to (Press button) (end_of under)

abbrev pub pressed : ℕ → List ℕ → Pointer → Pointer
pressed button under pointer =
    let there = if is_any_held pointer.buttons then pointer else put_into under pointer in
    record there { buttons = with_pressed button pointer.buttons }

-- a Leave of this window
abbrev pub is_leave : Option ℕ → ℕ → PointerKind → Bool
is_leave window left (Crossing Leave detail) = is_same window (Some left)
is_leave window left kind = false

abbrev pub is_leave_of : Option ℕ → PointerEvent → Bool
is_leave_of window event = is_leave window event.window event.kind

-- After the last release the pointer goes to the window under the point. A Leave that was told already isn't told again, and a window that the
-- point came back into is entered.
abbrev pub freed_told : Bool → List ℕ → List ℕ → List PointerEvent
freed_told false way under = crossings_of way under
freed_told true way under =
    if is_same (end_of way) (end_of under) then to (Crossing Enter Ancestor) (end_of under)
    else filter (λ event. not (is_leave_of (end_of way) event)) (crossings_of way under)

abbrev pub released_told : ℕ → List ℕ → List ℕ → Pointer → List PointerEvent
released_told button way under pointer =
    to (Release button) (end_of way) ++ (if is_any_held (with_released button pointer.buttons) then [] else freed_told pointer.is_left way under)

abbrev pub released : ℕ → List ℕ → Pointer → Pointer
released button under pointer =
    let left = with_released button pointer.buttons in
    let there = if is_any_held left then pointer else put_into under pointer in
    record there { buttons = left }
