use Rattle.std.proofs.Common.{length}
use Rattle.tcl_text.specs.Indices.{before, through}
use Rattle.tcl_text.proofs.ListLemmas.{part_cut}
use Rattle.tcl_text.proofs.commands.lists.items_between.Goals as goal

pub returns : goal.returns
returns c =
    let items = c.args.items.now in
    rw (c.min-start.ensures, c.before-2.ensures, c.through-end.ensures) (part_cut (before c.args.first (length items)) (through c.args.last (length items)) items)
