use Rattle.tcl_words.proofs.Grammars.{one_script, one_fault, not_both}
use Rattle.tcl_words.proofs.laws.one_script_or_fault.Goals as goal

pub returns-clause-one_script : goal.returns-clause-one_script
returns-clause-one_script c = one_script

pub returns-clause-one_fault : goal.returns-clause-one_fault
returns-clause-one_fault c = one_fault

pub returns-clause-not_both : goal.returns-clause-not_both
returns-clause-not_both c = not_both
