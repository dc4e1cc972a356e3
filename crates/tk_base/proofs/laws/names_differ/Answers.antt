use Rattle.tk_base.proofs.NamesLemmas.{named-name}
use Rattle.tk_base.proofs.laws.names_differ.Goals as goal

pub returns : goal.returns
returns c = named-name
