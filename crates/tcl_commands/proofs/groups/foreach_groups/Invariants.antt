use Rattle.std.proofs.Common.{◌≡◌, None, drop}
use Rattle.tcl_commands.specs.Ahead.{ahead}
use Rattle.tcl_commands.specs.Groups.{groups_from}
use Rattle.tcl_commands.proofs.groups.foreach_groups.Given as goal

-- with the groups that are left, there are all
abbrev pub invariant-loop-word : goal.invariant-loop-word
invariant-loop-word l = ahead l.groups (groups_from l.held (drop l.word-index l.words)) ≡ groups_from None l.words
