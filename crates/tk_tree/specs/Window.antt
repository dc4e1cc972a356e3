-- Meaning. One window, and what a new one is.
use Rattle.std.specs.Prelude.{ℕ, false, List, [], ◌∷◌, Option, if◌then◌else◌, codes}
use Rattle.std.specs.Str.{bytes_eq}
use Rattle.tk_base.specs.Kind.{class_of}
use Rattle.tk_base.specs.declared.kind.Kind.{Kind}
use Rattle.tk_tree.specs.declared.window.Window.{Window}

abbrev pub number_of : Window → ℕ
number_of window = window.number

-- the binding tags of a window: its path, its class, `.` and `all`; the main window's class is `Tk`, and `.` stands once
unfoldable pub default_tags : List ℕ → Kind → List (List ℕ)
default_tags path kind =
    if bytes_eq path (codes ".")
    then codes "." ∷ codes "Tk" ∷ codes "all" ∷ []
    else path ∷ class_of kind ∷ codes "." ∷ codes "all" ∷ []

-- a window that hasn't been laid out
abbrev pub new_window : ℕ → List ℕ → Kind → Option ℕ → Window
new_window number path kind parent = record {
  number = number;
  path = path;
  kind = kind;
  parent = parent;
  tags = default_tags path kind;
  rectangle = record { x = 0; y = 0; width = 1; height = 1 };
  mapped = false;
  dying = false;
}
