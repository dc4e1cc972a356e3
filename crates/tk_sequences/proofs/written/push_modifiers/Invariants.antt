use Rattle.std.proofs.Common.{◌≡◌, ◌++◌, take}
use Rattle.std.specs.List.{flat_map}
use Rattle.std.specs.String.{string_bytes}
use Rattle.tk_sequences.specs.Writing.{modifier_written}
use Rattle.tk_sequences.proofs.written.push_modifiers.Given as goal

abbrev pub invariant-loop-modifier : goal.invariant-loop-modifier
invariant-loop-modifier l = string_bytes l.text ≡ string_bytes l.fn.text ++ flat_map (modifier_written l.held) (take l.modifier-index l.modifier-items)
