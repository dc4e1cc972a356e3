use Rattle.std.proofs.Common.{◌≡◌, take}
use Rattle.tk_session.specs.Session.{rects_of}
use Rattle.panels.proofs.screen.rects_of.Given as goal

abbrev pub invariant-loop-panel : goal.invariant-loop-panel
invariant-loop-panel l = l.rects.items ≡ rects_of (take l.panel-index l.panels)
