use Rattle.std.proofs.Common.{◌≡◌}
use Rattle.panels_text.proofs.options.taken.Given as goal

-- the command stays
abbrev pub invariant-loop-word : goal.invariant-loop-word
invariant-loop-word l = l.options.command ≡ l.initial.options.command
