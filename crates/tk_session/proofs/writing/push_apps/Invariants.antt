use Rattle.std.proofs.Common.{◌≡◌, ◌++◌, take}
use Rattle.std.specs.Prelude.{flat_map}
use Rattle.tk_session.specs.Writing.{app_text}
use Rattle.tk_session.proofs.writing.push_apps.Given as goal

-- what was gone over is written
abbrev pub invariant-loop-app : goal.invariant-loop-app
invariant-loop-app l = l.text.items ≡ l.fn.text.items ++ flat_map app_text (take l.app-index l.apps)
