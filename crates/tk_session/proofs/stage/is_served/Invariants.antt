use Rattle.std.proofs.Common.{◌≡◌, false, take}
use Rattle.tk_session.specs.Reading.{is_served}
use Rattle.tk_session.proofs.stage.is_served.Given as goal

abbrev pub invariant-loop-alias : goal.invariant-loop-alias
invariant-loop-alias l = is_served l.name (take l.alias-index l.aliases) ≡ false
