use Rattle.tk_tree.proofs.PathLemmas.{split_result}
use Rattle.tk_tree.proofs.path.split_last.Goals as goal

pub returns : goal.returns
returns c = split_result c.args.path.now c.rsplit_once.result c.rsplit_once.ensures.cases
