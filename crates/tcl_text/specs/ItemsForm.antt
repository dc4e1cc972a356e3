-- Steps. The items of a list that are left, wherever they are taken from.
use Rattle.std.specs.Prelude.{ℕ, List}
use Rattle.tcl_text.specs.declared.list_items.ItemsForm.{ItemsForm}
use Rattle.tcl_text.specs.declared.list_items.ItemsForm.TheVariants.{Kept, Read}

abbrev pub items_of : ItemsForm → List (List ℕ)
items_of (Kept items) = items
items_of (Read items) = items
