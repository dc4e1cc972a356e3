use Rattle.std.proofs.Common.{◌+◌, ◌++◌, ◌∙◌, ap, sym, drop, option_map}
use Rattle.tcl_commands.specs.Branches.{arms_from}
use Rattle.tcl_commands.proofs.ShapeLemmas.{drop_at}
use Rattle.tcl_commands.proofs.branches.switch_arms.Goals as goal

pub loop-item-preserved : goal.loop-item-preserved
loop-item-preserved c =
    c.in_ok-held.ensures (drop (c.loop-item.item-index + 1) c.args.items.now)
    ∙ ap (λ items. option_map (λ more. c.loop-item.arms ++ more) (arms_from c.loop-item.held items)) (sym (drop_at c.args.items.now c.loop-item.item-index c.item-item.result c.loop-item-test.true c.item-item.is))
    ∙ c.loop-item.invariant
