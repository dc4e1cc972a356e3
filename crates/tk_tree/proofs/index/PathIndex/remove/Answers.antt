use Rattle.std.proofs.Common.{Option, [], sym, ap, subst}
use Rattle.std.specs.Option.{option_map_or}
use Rattle.tk_tree.specs.declared.index.PathRow.{PathRow}
use Rattle.tk_tree.specs.Index.{AreRising, row_children}
use Rattle.tk_tree.proofs.index.PathIndex.remove.Goals as goal

pub remove-requires : goal.remove-requires
remove-requires c = λ n.
    subst AreRising (ap (λ (found : Option PathRow). option_map_or (λ row. row_children row n) found []) (sym c.in-Some.ensures.value)) (c.requires n)
