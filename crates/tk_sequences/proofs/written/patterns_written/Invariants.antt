use Rattle.std.proofs.Common.{◌≡◌, take}
use Rattle.std.specs.List.{flat_map}
use Rattle.std.specs.String.{string_bytes}
use Rattle.tk_sequences.specs.Writing.{pattern_written}
use Rattle.tk_sequences.proofs.written.patterns_written.Given as goal

abbrev pub invariant-loop-pattern : goal.invariant-loop-pattern
invariant-loop-pattern l = string_bytes l.text ≡ flat_map pattern_written (take l.pattern-index l.pattern-items)
