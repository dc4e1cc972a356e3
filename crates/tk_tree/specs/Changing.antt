-- Steps. What the table's own word for a change makes of a window.
use Rattle.std.specs.Prelude.{true}
use Rattle.tk_tree.specs.declared.change.WindowChange.{WindowChange}
use Rattle.tk_tree.specs.declared.change.WindowChange.TheVariants.{Dying, Tags, Place}
use Rattle.tk_tree.specs.declared.window.Window.{Window}

abbrev pub changed : WindowChange → Window → Window
changed Dying window = record window { dying = true }
changed (Tags tags) window = record window { tags = tags }
changed (Place place mapped) window = record window { rectangle = place; mapped = mapped }
