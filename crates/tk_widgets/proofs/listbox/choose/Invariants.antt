use Rattle.std.proofs.Common.{◌≡◌, ◌++◌, take, drop}
use Rattle.tk_widgets.specs.Listboxes.{selected_by}
use Rattle.tk_widgets.proofs.listbox.choose.Given as goal

-- those before the place are selected or not, and the others are as they were
abbrev pub invariant-loop-place : goal.invariant-loop-place
invariant-loop-place l = l.items ≡ selected_by l.how (take l.place l.fn.items) ++ drop l.place l.fn.items
