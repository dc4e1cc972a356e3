use Rattle.tk_sequences.proofs.ReadBack.{read_back}
use Rattle.tk_sequences.proofs.laws.canonical_form_is_read_back.Goals as goal

pub returns : goal.returns
returns c = read_back
