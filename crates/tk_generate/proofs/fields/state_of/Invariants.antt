use Rattle.std.proofs.Common.{◌≡◌, take}
use Rattle.std.specs.List.{sum_by}
use Rattle.tk_generate.specs.Fields.{held_bit}
use Rattle.tk_generate.proofs.fields.state_of.Given as goal

abbrev pub invariant-loop-modifier : goal.invariant-loop-modifier
invariant-loop-modifier l = l.state ≡ sum_by (held_bit l.modifiers) (take l.modifier-index l.modifier-items)
