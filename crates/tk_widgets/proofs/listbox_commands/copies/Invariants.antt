use Rattle.std.proofs.Common.{◌≡◌, take}
use Rattle.tk_widgets.proofs.listbox_commands.copies.Given as goal

-- the copies so far
abbrev pub invariant-loop-text : goal.invariant-loop-text
invariant-loop-text l = l.list ≡ take l.text-index l.texts
