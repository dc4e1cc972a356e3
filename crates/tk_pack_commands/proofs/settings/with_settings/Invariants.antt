use Rattle.std.proofs.Common.{◌≡◌, length}
use Rattle.tk_pack_commands.specs.Options.{with_settings}
use Rattle.tk_pack_commands.proofs.settings.with_settings.Given as goal

-- making those that are left leads to what making all leads to
abbrev pub invariant-loop-setting : goal.invariant-loop-setting
invariant-loop-setting l = with_settings l.rest l.made ≡ with_settings l.settings l.fn.request

abbrev pub decreases-loop-setting : goal.decreases-loop-setting
decreases-loop-setting l = length l.rest
