use Rattle.tk_sequences.proofs.ReadBack.{forms_differ}
use Rattle.tk_sequences.proofs.laws.canonical_forms_differ.Goals as goal

pub returns : goal.returns
returns c = forms_differ
