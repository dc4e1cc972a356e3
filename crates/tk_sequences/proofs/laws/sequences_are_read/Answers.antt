use Rattle.tk_sequences.proofs.Grammars.{sequences_read}
use Rattle.tk_sequences.proofs.laws.sequences_are_read.Goals as goal

pub returns : goal.returns
returns c = sequences_read
