-- Meaning. The window that a command is called for.
use Rattle.std.specs.Prelude.{ℕ, List, ◌++◌, Option, Some, None, Result, Ok, codes, if◌then◌else◌}
use Rattle.std.specs.Str.{bytes_eq}
use Rattle.tcl_text.specs.Answers.{fails, quoted}
use Rattle.tk_base.specs.declared.kind.Kind.{Kind}
use Rattle.tk_base.specs.Kind.{class_of}
use Rattle.tk_screen.specs.Own.{Windowing}
use Rattle.tk_tree.specs.declared.window.Window.{Window}
use Rattle.tk_tree.specs.Own.{at_path}
use Rattle.tk_tree.specs.Path.{bad_path}

abbrev pub number_in : Kind → List ℕ → Option Window → Result ℕ (List ℕ)
number_in kind path None = bad_path path
number_in kind path (Some window) = if bytes_eq (class_of window.kind) (class_of kind) then Ok window.number else bad_path path

-- the number of the window of a path, which has to be of the class of a kind of widgets
unfoldable pub number_of : Kind → List ℕ → Windowing → Result ℕ (List ℕ)
number_of kind path own = number_in kind path (at_path path own.tree)
