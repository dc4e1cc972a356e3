use Rattle.tk_sequences.proofs.Grammars.{faults_told}
use Rattle.tk_sequences.proofs.laws.faults_are_told.Goals as goal

pub returns : goal.returns
returns c = faults_told
