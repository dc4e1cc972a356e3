use Rattle.tk_base.proofs.NamesLemmas.{name-named}
use Rattle.tk_base.proofs.laws.names_are_kept.Goals as goal

pub returns : goal.returns
returns c = name-named
