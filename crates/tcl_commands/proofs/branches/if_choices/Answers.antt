use Rattle.tcl_commands.specs.IfWords.{choices_of}
use Rattle.tcl_commands.proofs.ShapeLemmas.{none_from}
use Rattle.tcl_commands.proofs.branches.if_choices.Goals as goal

pub returns-in-None : goal.returns-in-None
unfolding choices_of
returns-in-None c =
    none_from c.loop-word.branches c.loop-word.clause c.args.words.now c.loop-word.word-index c.word-item.result _ c.loop-word-test.true c.word-item.is (rw c.in-None.is at c.in_ok-next.ensures) c.loop-word.invariant
