use Rattle.tk_virtual.proofs.NamedLemmas.{listed_other}
use Rattle.tk_virtual.proofs.named.take_out_name.Goals as goal

pub returns-clause-others : goal.returns-clause-others
returns-clause-others c = listed_other c.args.name.now c.args.named.now c.remove.new.self _ c.remove.ensures.updates
