use Rattle.std.proofs.Common.{◌≡◌, drop}
use Rattle.tcl_commands.specs.declared.branches.Clause.TheVariants.{AtTest}
use Rattle.tcl_commands.specs.Ahead.{with_branches}
use Rattle.tcl_commands.specs.IfWords.{choices_from}
use Rattle.tcl_commands.proofs.branches.if_choices.Given as goal

-- with what the words that are left offer, there is all
abbrev pub invariant-loop-word : goal.invariant-loop-word
invariant-loop-word l = with_branches l.branches (choices_from l.clause (drop l.word-index l.words)) ≡ choices_from AtTest l.words
