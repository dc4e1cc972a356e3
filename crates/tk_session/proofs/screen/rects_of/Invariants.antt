use Rattle.std.proofs.Common.{◌≡◌, take}
use Rattle.tk_session.specs.Session.{rects_of}
use Rattle.tk_session.proofs.screen.rects_of.Given as goal

abbrev pub invariant-loop-app : goal.invariant-loop-app
invariant-loop-app l = l.rects ≡ rects_of (take l.app-index l.apps)
