use Rattle.tcl_words.proofs.Grammars.{commands_of-script, script-commands_of}
use Rattle.tcl_words.proofs.laws.commands_are_read.Goals as goal

pub returns-clause-script : goal.returns-clause-script
returns-clause-script c = commands_of-script

pub returns-clause-only : goal.returns-clause-only
returns-clause-only c = script-commands_of
