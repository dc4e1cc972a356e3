use Rattle.std.proofs.Common.{◌≡◌, take}
use Rattle.std.specs.Option.{option_copied}
use Rattle.tk_options.specs.Options.{last_setting}
use Rattle.tk_options.proofs.settings.last_value.Given as goal

-- the last of those so far
abbrev pub invariant-loop-setting : goal.invariant-loop-setting
invariant-loop-setting l = option_copied l.last ≡ last_setting l.option (take l.setting-index l.all)
