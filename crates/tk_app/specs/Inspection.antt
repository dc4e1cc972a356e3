-- Meaning. What of an application can be looked at beside its section. Of a `Part`, a word of steps, only its application is asked.
use Rattle.std.specs.Prelude.{ℕ, List, Option, option_and_then, option_map, slice_get}
use Rattle.std.specs.Result.{result_ok}
use Rattle.tcl_vars.specs.Store.{variable_in}
use Rattle.tk_screen.specs.Widgets.{widget_at}
use Rattle.tk_tree.specs.declared.window.Window.{Window}
use Rattle.tk_tree.specs.Own.{at_path, window_at}
use Rattle.tk_widgets.specs.declared.widget.Widget.{Widget}
use Rattle.tk_app.specs.Application.{Application}
use Rattle.tk_app.specs.Part.{Part}

module _ {M : Type 0} where
  -- the window of a path
  abbrev pub window_of : List ℕ → Application M → Option Window
  window_of path application = at_path path application.windowing.tree

  -- and its widget
  abbrev pub widget_of : List ℕ → Application M → Option Widget
  widget_of path application = option_and_then (λ window. widget_at window.number application.windowing.widgets) (window_of path application)

  -- the path of the window that gets the events of keys; `.` takes its place when it goes, and there is none once `.` is gone
  abbrev pub focus_of : Application M → Option (List ℕ)
  focus_of application = option_map (λ window. window.path) (window_at application.input.focus application.windowing.tree)

  -- the title
  abbrev pub title_of : Application M → Option (List ℕ)
  title_of application = option_map (λ toplevel. toplevel.title) application.windowing.toplevel

  -- the text of the global variable of a name, or of the element of an array that the name means, where it can be read
  abbrev pub variable_of : List ℕ → Application M → Option (List ℕ)
  variable_of name application = result_ok (variable_in application.store 0 name)

  -- what is looked at, of the application in a slot
  abbrev pub seen_in : {T : Type 0} → (Application M → Option T) → ℕ → List (Part M) → Option T
  seen_in look slot parts = option_and_then (λ part. look part.application) (slice_get parts slot)
