use Rattle.std.proofs.Common.{◌≡◌, ◌++◌, map, take}
use Rattle.tk_inputs.specs.Crossings.{crossing}
use Rattle.tk_inputs.proofs.borders.push_all.Given as goal

abbrev pub invariant-loop-window : goal.invariant-loop-window
invariant-loop-window l = l.told.items ≡ l.fn.told.items ++ map (crossing l.fn.kind l.fn.detail) (take l.window-index l.windows)
