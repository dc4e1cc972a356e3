-- Meaning. The lines of an application's windows.
use Rattle.std.specs.Prelude.{ℕ, List, [], ◌++◌, if◌then◌else◌, Option, Some, None, codes, flat_map}
use Rattle.std.specs.Option.{option_map_or}
use Rattle.std.specs.Str.{bytes_eq}
use Rattle.tcl_vars.specs.Store.{Store}
use Rattle.tk_base.specs.Kind.{class_of}
use Rattle.tk_screen.specs.Own.{Windowing}
use Rattle.tk_screen.specs.Shapes.{pre_order, value_of}
use Rattle.tk_screen.specs.Fields.{escaped, escaped_path, field, flag}
use Rattle.tk_tree.specs.declared.window.Window.{Window}
use Rattle.tk_tree.specs.Own.{window_at}

-- the class of a window: that of the main window is Tk
abbrev pub class_name : Window → List ℕ
class_name window = if bytes_eq window.path (codes ".") then codes "Tk" else class_of window.kind

-- what a window shows, after a blank; nothing where it shows nothing
abbrev pub value_field : Option (List ℕ) → List ℕ
value_field None = []
value_field (Some value) = codes " " ++ escaped value

-- ` X Y W H MAPPED`
abbrev pub place_fields : Window → List ℕ
place_fields window =
    field window.rectangle.x ++ field window.rectangle.y ++ field window.rectangle.width ++ field window.rectangle.height ++ field (flag window.mapped)

-- `win PATH CLASS X Y W H MAPPED VALUE`
abbrev pub window_line : Windowing → Store → Window → List ℕ
window_line own store window =
    codes "win " ++ escaped_path window.path ++ codes " " ++ class_name window ++ place_fields window
    ++ value_field (value_of own store window.number) ++ codes "\n"

-- that of the window with a number
abbrev pub line_at : Windowing → Store → ℕ → List ℕ
line_at own store number = option_map_or (window_line own store) (window_at number own.tree) []

-- all windows, each before its children, and children in the order of creation
abbrev pub tree_lines : Windowing → Store → List ℕ
tree_lines own store = flat_map (line_at own store) (pre_order own.tree)
