use Rattle.std.proofs.Common.{◌≡◌, ◌++◌, drop}
use Rattle.panels.specs.Picture.{panels_text}
use Rattle.panels.proofs.drawing.push_panels.Given as goal

abbrev pub invariant-loop-panel : goal.invariant-loop-panel
invariant-loop-panel l = l.text.items ++ panels_text (drop l.panel-index l.panels) ≡ l.fn.text.items ++ panels_text l.panels
