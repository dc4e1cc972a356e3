use Rattle.std.proofs.Common.{rules, ◌∙◌}
use Rattle.tk_virtual.proofs.NamedLemmas.{listed_other}
use Rattle.tk_virtual.proofs.named.take_out_pairs.Goals as goal

pub returns-then-is_empty-clause-others : goal.returns-then-is_empty-clause-others
returns-then-is_empty-clause-others c = λ other differ.
    let name = c.args.name.now in
    let left = c.leave_out_pairs.new.pairs in
    let written = c.get_mut.follows.lender left in
    listed_other name written c.remove.new.self _ c.remove.ensures.updates other differ
    ∙ listed_other name c.args.named.now written _ ((c.get_mut.follows.holds left).3 (search rules)) other differ

pub returns-else-is_empty-clause-others : goal.returns-else-is_empty-clause-others
returns-else-is_empty-clause-others c = λ other differ.
    let left = c.leave_out_pairs.new.pairs in
    listed_other c.args.name.now c.args.named.now (c.get_mut.follows.lender left) _ ((c.get_mut.follows.holds left).3 (search rules)) other differ
