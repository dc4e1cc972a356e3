use Rattle.tcl_commands.proofs.ChoicesCut.{choices_read, choices_cut}
use Rattle.tcl_commands.proofs.laws.if_words_are_cut.Goals as goal

pub returns-clause-choices : goal.returns-clause-choices
returns-clause-choices c = choices_read

pub returns-clause-only : goal.returns-clause-only
returns-clause-only c = choices_cut
