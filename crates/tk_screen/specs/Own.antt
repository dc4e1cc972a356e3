-- Meaning. What one application has on the screen.
use Rattle.std.specs.Prelude.{ℕ, List, [], ◌∷◌, Option, None, Some, option_map, codes}
use Rattle.tk_base.specs.declared.kind.Kind.{Kind}
use Rattle.tk_base.specs.declared.kind.Kind.TheVariants.{Frame}
use Rattle.tk_packer.specs.Packs.{Packing, no_packs, without_window as without_packs}
use Rattle.tk_tree.specs.Create.{parent_number, with_window}
use Rattle.tk_tree.specs.Own.{Tree, without_window}
use Rattle.tk_widgets.specs.declared.widget.Widget.{Widget}
use Rattle.tk_widgets.specs.Sizes.{new_widget}
use Rattle.tk_screen.specs.Widgets.{OwnWidgets, with_widget, without_widget}
use Rattle.tk_screen.specs.declared.toplevel.Toplevel.{Toplevel}

-- its windows and their next number, their widgets, what is packed in them, and its rectangle, name and title; none of the last in `nothing`, from which
-- `added` makes what an application has at first
pub record Windowing : Type 0 where
  pub tree : Tree
  pub widgets : OwnWidgets
  pub packs : Packing
  pub toplevel : Option Toplevel

-- ---- what calls do to one application's part

-- no window, and no number was given
abbrev pub no_windows : Tree
no_windows = record { next_number = 0; windows = [] }

-- nothing of the application is on the screen
abbrev pub nothing : Windowing
nothing = record { tree = no_windows; widgets = []; packs = no_packs; toplevel = None }

-- an application of a name that was just added: the main window `.`, a frame with the options' defaults, has number 0, and its title is the name
abbrev pub added : List ℕ → ℕ × ℕ → Windowing
added name size = record {
  tree = with_window (codes ".") Frame None no_windows;
  widgets = (0, new_widget Frame) ∷ [];
  packs = no_packs;
  toplevel = Some (record { name = name; title = name; size = size });
}

abbrev pub with_toplevel : (Toplevel → Toplevel) → Windowing → Windowing
with_toplevel change own = record own { toplevel = option_map change own.toplevel }

-- a rectangle of another size
abbrev pub with_size : ℕ × ℕ → Windowing → Windowing
with_size size own = with_toplevel (λ toplevel. record toplevel { size = size }) own

-- another title
abbrev pub with_title : List ℕ → Windowing → Windowing
with_title title own = with_toplevel (λ toplevel. record toplevel { title = title }) own

-- one window more, with its widget
abbrev pub with_made : List ℕ → Kind → Widget → Windowing → Windowing
with_made path kind widget own = record own {
  tree = with_window path kind (parent_number path own.tree) own.tree;
  widgets = with_widget own.tree.next_number widget own.widgets;
}

-- the window with a number gone, and its widget and packing with it
abbrev pub without : ℕ → Windowing → Windowing
without number own = record own {
  tree = without_window number own.tree;
  widgets = without_widget number own.widgets;
  packs = without_packs number own.packs;
}
