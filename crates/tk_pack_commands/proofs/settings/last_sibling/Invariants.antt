use Rattle.std.proofs.Common.{◌≡◌, length, None}
use Rattle.tk_pack_commands.specs.Options.{last_sibling}
use Rattle.tk_pack_commands.proofs.settings.last_sibling.Given as goal

-- the last of those that are left, or else of those before
abbrev pub invariant-loop-setting : goal.invariant-loop-setting
invariant-loop-setting l = last_sibling l.named l.rest ≡ last_sibling None l.settings

abbrev pub decreases-loop-setting : goal.decreases-loop-setting
decreases-loop-setting l = length l.rest
