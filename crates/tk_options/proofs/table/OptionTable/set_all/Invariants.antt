use Rattle.std.proofs.Common.{◌≡◌}
use Rattle.tk_options.specs.Options.{with_settings}
use Rattle.tk_options.proofs.table.OptionTable.set_all.Given as goal

-- those so far are set
abbrev pub invariant-loop-option : goal.invariant-loop-option
invariant-loop-option l = l.self ≡ with_settings l.yielded l.fn.self
