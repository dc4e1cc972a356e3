use Rattle.std.proofs.Common.{◌≡◌, take}
use Rattle.std.specs.String.{string_bytes}
use Rattle.tcl_text.specs.StringCommands.{concatenated}
use Rattle.tcl_text.proofs.commands.strings.concatenated.Given as goal

abbrev pub invariant-loop-word : goal.invariant-loop-word
invariant-loop-word l = string_bytes l.string ≡ concatenated (take l.word-index l.words)
