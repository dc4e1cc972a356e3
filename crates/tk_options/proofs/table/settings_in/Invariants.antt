use Rattle.std.proofs.Common.{◌≡◌, length}
use Rattle.tk_options.specs.Options.{settings}
use Rattle.tk_options.proofs.SettingLemmas.{settings_behind}
use Rattle.tk_options.proofs.table.settings_in.Given as goal

-- what is tested so far, with the settings of the words that are left
abbrev pub invariant-loop-word : goal.invariant-loop-word
invariant-loop-word l = settings_behind l.all.items (settings l.rest l.table) ≡ settings l.words l.table

abbrev pub decreases-loop-word : goal.decreases-loop-word
decreases-loop-word l = length l.rest
