use Rattle.tk_base.proofs.Parts.{remove_from, moved_up}
use Rattle.tk_base.proofs.siblings.take_out.Goals as goal

pub returns-then-place-left-clause-items : goal.returns-then-place-left-clause-items
returns-then-place-left-clause-items g c =
    rw c.copy_within.ensures.items (moved_up c.args.values.now.items c.args.start c.args.place c.requires)

pub returns-clause-items : goal.returns-clause-items
returns-clause-items g c =
    rw c.remove.ensures.items (remove_from c.args.values.now.items c.args.start c.args.place c.requires)
