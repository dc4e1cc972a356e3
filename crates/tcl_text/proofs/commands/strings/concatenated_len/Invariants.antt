use Rattle.std.proofs.Common.{◌≡◌, ◌≤◌, length, take}
use Rattle.tcl_text.specs.StringCommands.{concatenated}
use Rattle.tcl_text.proofs.commands.strings.concatenated_len.Given as goal

abbrev pub invariant-loop-word : goal.invariant-loop-word
invariant-loop-word l = (l.size ≡ length (concatenated (take l.word-index l.words))) × (l.size ≤ 65536)
