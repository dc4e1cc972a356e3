use Rattle.std.proofs.Common.{sym, ◌∙◌}
use Rattle.tk_screen.proofs.Rows.{opened}
use Rattle.tk_screen.proofs.widgets.Widgets.open.Goals as goal

pub returns-clause-same : goal.returns-clause-same
returns-clause-same c =
    opened (λ row. row.entries) c.args.self.now.rows c.insert.new.self c.args.owner c.new.result (sym c.contains_key.ensures ∙ c.if-contains_key.false) c.in_ok-insert.ensures.updates.1 c.in_ok-insert.ensures.updates.2 c.new.ensures.empty
