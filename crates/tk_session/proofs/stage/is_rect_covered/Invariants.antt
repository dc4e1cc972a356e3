use Rattle.std.proofs.Common.{◌≡◌, false, take}
use Rattle.tk_session.specs.Reading.{is_covered}
use Rattle.tk_session.proofs.stage.is_rect_covered.Given as goal

abbrev pub invariant-loop-app : goal.invariant-loop-app
invariant-loop-app l = is_covered l.rect (take l.app-index l.apps) ≡ false
