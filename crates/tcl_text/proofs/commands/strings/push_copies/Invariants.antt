use Rattle.std.proofs.Common.{◌≡◌, ◌++◌, replicate}
use Rattle.std.specs.List.{concat}
use Rattle.std.specs.String.{string_bytes}
use Rattle.tcl_text.proofs.commands.strings.push_copies.Given as goal

abbrev pub invariant-loop-copy : goal.invariant-loop-copy
invariant-loop-copy l = string_bytes l.string ≡ string_bytes l.initial.string ++ concat (replicate l._copy l.text)
