-- Meaning. What the layout has to know of an application's windows, and what they show.
use Rattle.std.specs.Prelude.{ℕ, Bool, true, false, ◌&&◌, List, [], codes, Option, None, Some, option_and_then}
use Rattle.std.specs.List.{filter_map}
use Rattle.std.specs.Option.{option_map_or}
use Rattle.std.specs.Result.{result_ok}
use Rattle.tcl_vars.specs.Store.{Store, variable_in}
use Rattle.tk_base.specs.declared.kind.Kind.{Kind}
use Rattle.tk_base.specs.declared.kind.Kind.TheVariants as kind
use Rattle.tk_packer.specs.declared.shape.Shape.{Shape}
use Rattle.tk_options.specs.declared.option.OptionName.TheVariants.{BorderWidth}
use Rattle.tk_options.specs.Options.{amount_of}
use Rattle.tk_packer.specs.Packs.{Packing, propagates_in}
use Rattle.tk_tree.specs.declared.window.Window.{Window}
use Rattle.tk_tree.specs.Orders.{subtree}
use Rattle.tk_tree.specs.Own.{Tree, at_path, window_at}
use Rattle.tk_widgets.specs.Classes.{value_told}
use Rattle.tk_widgets.specs.Commands.{variable_of}
use Rattle.tk_widgets.specs.declared.widget.Widget.{Widget}
use Rattle.tk_widgets.specs.Sizes.{requested}
use Rattle.tk_screen.specs.Own.{Windowing}
use Rattle.tk_screen.specs.Widgets.{widget_at}

-- the text of the global variable that `-textvariable` of a widget names, where there is one that can be read
abbrev pub variable_text : Widget → Store → Option (List ℕ)
variable_text widget store = option_and_then (λ name. result_ok (variable_in store 0 name)) (variable_of widget)

-- what is packed in a frame decides what it asks for, unless that was unset; it doesn't in other widgets
abbrev pub is_frame : Kind → Bool
is_frame kind.Frame = true
is_frame _ = false

-- a window as the layout sees it: its widget asks for a size with the variable's text of the moment
unfoldable pub shape_of : Packing → Store → Window → Widget → Shape
shape_of packs store window widget = record {
  number = window.number;
  width = (requested widget (variable_text widget store)).0;
  height = (requested widget (variable_text widget store)).1;
  border = amount_of BorderWidth widget.options;
  propagates = is_frame window.kind && propagates_in window.number packs;
  rectangle = window.rectangle;
  mapped = window.mapped;
}

-- the window with a number, if it is there and has a widget
abbrev pub shape_by : Packing → Store → Option Window → Option Widget → Option Shape
shape_by packs store None widget = None
shape_by packs store (Some window) None = None
shape_by packs store (Some window) (Some widget) = Some (shape_of packs store window widget)

abbrev pub shape_at : Windowing → Store → ℕ → Option Shape
shape_at own store number = shape_by own.packs store (window_at number own.tree) (widget_at number own.widgets)

-- the numbers of all windows, each before its children, and children in the order of creation
unfoldable pub pre_order : Tree → List ℕ
pre_order tree = option_map_or (λ main. subtree main.number tree) (at_path (codes ".") tree) []

-- all windows as the layout sees them, in that order
unfoldable pub shapes : Windowing → Store → List Shape
shapes own store = filter_map (shape_at own store) (pre_order own.tree)

-- what the window with a number shows: the text of a label, a button or an entry, the list of a listbox's items; nothing for a frame
abbrev pub value_of : Windowing → Store → ℕ → Option (List ℕ)
value_of own store number = option_and_then (λ widget. value_told widget (variable_text widget store)) (widget_at number own.widgets)
