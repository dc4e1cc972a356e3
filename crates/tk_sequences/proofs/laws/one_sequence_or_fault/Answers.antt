use Rattle.tk_sequences.proofs.Grammars.{each_is_either, one_sequence, one_fault, not_both}
use Rattle.tk_sequences.proofs.laws.one_sequence_or_fault.Goals as goal

pub returns-clause-some : goal.returns-clause-some
returns-clause-some c = each_is_either

pub returns-clause-one_sequence : goal.returns-clause-one_sequence
returns-clause-one_sequence c = one_sequence

pub returns-clause-one_fault : goal.returns-clause-one_fault
returns-clause-one_fault c = one_fault

pub returns-clause-not_both : goal.returns-clause-not_both
returns-clause-not_both c = not_both
