-- Meaning. What applications keep of their input.
use Rattle.std.specs.Prelude.{ℕ, false, ◌==◌, Option, Some, None, if◌then◌else◌}
use Rattle.tk_inputs.specs.declared.inputs.Input.{Input}
use Rattle.tk_inputs.specs.Pointer.{outside_window}

-- At first the main window, number 0, has the keys, and neither the host's focus nor the pointer is in the application.
abbrev pub fresh : Input
fresh = record { focus = 0; has_focus = false; pointer = outside_window; over = None; pressed = None; relief = None }

-- the window kept, unless it is the one of this number
abbrev pub put_away : ℕ → Option ℕ → Option ℕ
put_away number None = None
put_away number (Some other) = if other == number then None else Some other

-- the pointer has gone out of a button
abbrev pub left_by : ℕ → Input → Input
left_by number input = record input { over = put_away number input.over }

-- A window is gone. The main window takes its place as the one that has the keys. The pointer keeps its number: no window has that, so that it
-- counts as outside.
unfoldable pub without_window : ℕ → Input → Input
without_window number input = record input {
  focus = if input.focus == number then 0 else input.focus;
  over = put_away number input.over;
  pressed = put_away number input.pressed;
}
