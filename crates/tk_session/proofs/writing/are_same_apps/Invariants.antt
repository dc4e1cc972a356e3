use Rattle.std.proofs.Common.{◌≡◌, ◌++◌, take}
use Rattle.tk_session.proofs.writing.are_same_apps.Given as goal

-- what was gone over is the same
abbrev pub invariant-loop-app : goal.invariant-loop-app
invariant-loop-app l = l.others ≡ take l.app-index l.apps ++ l.rest
