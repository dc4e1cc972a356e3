use Rattle.tcl_words.proofs.Grammars.{commands_of-fault, fault-commands_of}
use Rattle.tcl_words.proofs.laws.faults_are_told.Goals as goal

pub returns-clause-fault : goal.returns-clause-fault
returns-clause-fault c = commands_of-fault

pub returns-clause-only : goal.returns-clause-only
returns-clause-only c = fault-commands_of
