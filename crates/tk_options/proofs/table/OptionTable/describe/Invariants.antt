use Rattle.std.proofs.Common.{◌≡◌, map, take}
use Rattle.tk_options.specs.Options.{description}
use Rattle.tk_options.proofs.table.OptionTable.describe.Given as goal

-- the options so far, told
abbrev pub invariant-loop-entry : goal.invariant-loop-entry
invariant-loop-entry l = l.list ≡ map description (take l.entry-index l.entry-items)
