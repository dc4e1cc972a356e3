use Rattle.std.proofs.Common.{arith}
use Rattle.tk_alias.proofs.JoinLemmas.{one_item}
use Rattle.tk_alias.proofs.kinds.looked_up.Goals as goal

pub returns-in-len1 : goal.returns-in-len1
returns-in-len1 c = rw (one_item c.args.args.now c.key-item.result (omega arith) (omega arith) c.key-item.is) c.value_answer.ensures
