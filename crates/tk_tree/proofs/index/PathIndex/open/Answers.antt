use Rattle.std.proofs.Common.{sym, ◌∙◌}
use Rattle.tk_tree.proofs.IndexLemmas.{opened}
use Rattle.tk_tree.proofs.index.PathIndex.open.Goals as goal

pub returns-clause-same : goal.returns-clause-same
returns-clause-same c =
    opened c.args.self.now c.insert.new.self c.args.owner c.new.result (sym c.contains_key.ensures ∙ c.if-contains_key.false) c.in_ok-insert.ensures.updates.1 c.in_ok-insert.ensures.updates.2 c.new.ensures
