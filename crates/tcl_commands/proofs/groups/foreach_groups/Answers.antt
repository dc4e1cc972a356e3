use Rattle.tcl_commands.specs.Groups.{groups_of}
use Rattle.tcl_commands.proofs.ShapeLemmas.{fault_from}
use Rattle.tcl_commands.proofs.groups.foreach_groups.Goals as goal

pub returns-in-Err : goal.returns-in-Err
unfolding groups_of
returns-in-Err c =
    fault_from c.loop-word.groups c.loop-word.held c.args.words.now c.loop-word.word-index c.word-item.result c.in-Err.text _ c.loop-word-test.true c.word-item.is (rw c.in-Err.is at c.in_ok-next.ensures) c.loop-word.invariant
