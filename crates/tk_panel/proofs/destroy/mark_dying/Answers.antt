use Rattle.std.proofs.Common.{sym, ◌∙◌}
use Rattle.tk_tree.specs.Shared.{own_of}
use Rattle.tk_panel.proofs.Marks.{unmarked}
use Rattle.tk_panel.proofs.destroy.mark_dying.Goals as goal

pub returns-else-holds-clause-own : goal.returns-else-holds-clause-own
returns-else-holds-clause-own c =
    unmarked c.args.win.number (own_of c.args.win.owner c.args.windows.now) (sym c.holds.ensures ∙ c.if-holds.false)
