use Rattle.std.proofs.Common.{◌≡◌, ◌++◌, drop}
use Rattle.tk_widgets.specs.Items.{selected_from}
use Rattle.tk_widgets.proofs.listbox.chosen_places.Given as goal

-- the places so far, with those of the rest
abbrev pub invariant-loop-place : goal.invariant-loop-place
invariant-loop-place l = l.list.items ++ selected_from l.place (drop l.place l.items) ≡ selected_from 0 l.items
