-- Steps. What a line changes of what a router holds. What the lines say stands in `Lines`, and a router holds just that.
use Rattle.std.specs.Prelude.{ℕ, not, ◌&&◌, ◌||◌, ◌==◌, if◌then◌else◌, Option, Some, None, slice_set}
use Rattle.tk_base.specs.Names as names
use Rattle.tk_route.specs.Buttons.{is_any_held, with_pressed, with_released}
use Rattle.tk_route.specs.Values.{Values, under}
use Rattle.tk_route.specs.declared.buttons.Buttons.{Buttons}
use Rattle.tk_route.specs.declared.keys.ModifierKeys.{ModifierKeys}
use Rattle.tk_route.specs.declared.line.HostLine.{HostLine}
use Rattle.tk_route.specs.declared.line.HostLine.TheVariants.{Move, Press, Release, Keydown, Keyup, Focus, Rect as Placed}

abbrev pub with_key_down : ℕ → ModifierKeys → ModifierKeys
with_key_down key keys = record {
  shift_left = keys.shift_left || key == names.shift_left;
  shift_right = keys.shift_right || key == names.shift_right;
  control_left = keys.control_left || key == names.control_left;
  control_right = keys.control_right || key == names.control_right;
  alt_left = keys.alt_left || key == names.alt_left;
  alt_right = keys.alt_right || key == names.alt_right;
  lock = if key == names.caps_lock then not keys.lock else keys.lock;
}

abbrev pub with_key_up : ℕ → ModifierKeys → ModifierKeys
with_key_up key keys = record {
  shift_left = keys.shift_left && not (key == names.shift_left);
  shift_right = keys.shift_right && not (key == names.shift_right);
  control_left = keys.control_left && not (key == names.control_left);
  control_right = keys.control_right && not (key == names.control_right);
  alt_left = keys.alt_left && not (key == names.alt_left);
  alt_right = keys.alt_right && not (key == names.alt_right);
  lock = keys.lock;
}

-- the application that has the held buttons from now on
abbrev pub holder_then : Values → Buttons → Option ℕ
holder_then known buttons =
    if not (is_any_held buttons) then None
    else (if is_any_held known.buttons then known.holder else under known.rects known.pointer)

abbrev pub with_buttons : Buttons → Values → Values
with_buttons buttons known = record known { buttons = buttons; holder = holder_then known buttons }

abbrev pub changed : HostLine → Values → Values
changed (Move x y) known = record known { pointer = Some (record { x = x; y = y }) }
changed (Press button) known = with_buttons (with_pressed button known.buttons) known
changed (Release button) known = with_buttons (with_released button known.buttons) known
changed (Keydown key) known = record known { keys = with_key_down key known.keys }
changed (Keyup key) known = record known { keys = with_key_up key known.keys }
changed (Focus slot) known = record known { focus = slot }
changed (Placed slot rect) known = record known { rects = slice_set known.rects slot rect }
