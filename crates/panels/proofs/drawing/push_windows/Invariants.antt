use Rattle.std.proofs.Common.{◌≡◌, ◌++◌, drop}
use Rattle.panels.specs.Picture.{windows_text}
use Rattle.panels.proofs.drawing.push_windows.Given as goal

abbrev pub invariant-loop-window : goal.invariant-loop-window
invariant-loop-window l = l.text.items ++ windows_text (drop l.window-index l.windows) ≡ l.fn.text.items ++ windows_text l.windows
