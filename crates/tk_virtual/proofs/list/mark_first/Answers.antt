use Rattle.std.proofs.Common.{Bool, sym, ap, ◌∙◌}
use Rattle.indexmap.specs.IndexMap.{IndexMap}
use Rattle.tk_virtual.specs.declared.pair.Pair.{Pair}
use Rattle.tk_virtual.proofs.EntryLemmas.{marking_absent}
use Rattle.tk_virtual.proofs.list.mark_first.Goals as goal

pub returns-in_default-get_mut : goal.returns-in_default-get_mut
returns-in_default-get_mut c =
    ap (λ (map : IndexMap Pair Bool _). map.entries) c.get_mut.follows.holds-at-none
    ∙ marking_absent c.args.named.now c.in-Some.pair.now c.args.pairs.now.entries (sym c.in-Some.ensures.value) (sym c.in_default-get_mut.ensures.value)
