-- Steps. The variables that windows show, with the texts that they had.
use Rattle.std.specs.Prelude.{◌≡◌, ◌≢◌, ◌⊎◌, ℕ, nat_eq, Bool, true, false, List, [], ◌∷◌, Option, None, Some, option_map, option_and_then}
use Rattle.std.specs.Map.{lookup}
use Rattle.std.specs.Result.{result_ok}
use Rattle.std.specs.Str.{bytes_eq}
use Rattle.tcl_vars.specs.Store.{Store, variable_in}
use Rattle.tk_screen.specs.declared.reads.TextRead.{TextRead}
use Rattle.tk_screen.specs.Own.{Windowing}
use Rattle.tk_screen.specs.Widgets.{widget_at}
use Rattle.tk_widgets.specs.Commands.{variable_of}
use Rattle.tk_widgets.specs.declared.widget.Widget.{Widget}

-- a global variable with its text
abbrev pub read_named : Store → List ℕ → TextRead
read_named store name = record { name = name; text = result_ok (variable_in store 0 name) }

-- the one that a widget shows
abbrev pub read_of : Store → Widget → Option TextRead
read_of store widget = option_map (read_named store) (variable_of widget)

-- the one that the widget of the window with a number shows
abbrev pub read_at : Windowing → Store → ℕ → Option TextRead
read_at own store number = option_and_then (read_of store) (widget_at number own.widgets)

abbrev pub same_text : Option (List ℕ) → Option (List ℕ) → Bool
same_text None None = true
same_text None (Some now) = false
same_text (Some text) None = false
same_text (Some text) (Some now) = bytes_eq text now

-- a variable has the text that it had
abbrev pub holds : Store → TextRead → Bool
holds store read = same_text read.text (result_ok (variable_in store 0 read.name))

-- what was read, by the numbers of the windows
abbrev pub Reads : Type 0
Reads = List (ℕ × TextRead)

-- what the window with a number shows is among them, if it shows a variable
abbrev pub IsKept : Windowing → Store → Reads → ℕ → Type 0
IsKept own store reads number = (read : TextRead) → read_at own store number ≡ Some read → lookup (nat_eq number) reads ≡ Some read

-- the variable that the window with a number showed has the text that it had
abbrev pub StillHolds : Store → Reads → ℕ → Type 0
StillHolds store reads number = (read : TextRead) → lookup (nat_eq number) reads ≡ Some read → holds store read ≡ true

abbrev pub IsOneOf : ℕ → List ℕ → Type 0
IsOneOf number [] = ⊥
IsOneOf number (other ∷ numbers) = (number ≡ other) ⊎ IsOneOf number numbers

-- the window with a number shows this variable now, if any, and every other one what it showed
pub record PutsRead (number : ℕ) (read : Option TextRead) (old new : Reads) : Type 0 where
  pub own : lookup (nat_eq number) new ≡ read
  pub others : (other : ℕ) → other ≢ number → lookup (nat_eq other) new ≡ lookup (nat_eq other) old
