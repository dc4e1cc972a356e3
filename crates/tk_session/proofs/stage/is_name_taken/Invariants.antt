use Rattle.std.proofs.Common.{◌≡◌, false, take}
use Rattle.tk_session.specs.Reading.{is_taken}
use Rattle.tk_session.proofs.stage.is_name_taken.Given as goal

abbrev pub invariant-loop-app : goal.invariant-loop-app
invariant-loop-app l = is_taken l.name (take l.app-index l.apps) ≡ false
