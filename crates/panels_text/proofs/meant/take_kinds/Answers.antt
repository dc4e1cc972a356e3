use Rattle.std.proofs.Common.{map, ap, sym, ◌∙◌}
use Rattle.panels_text.proofs.MeantLemmas.{kind_step, named_rows}
use Rattle.tk_options.specs.Names.{name_of}
use Rattle.panels_text.proofs.meant.take_kinds.Goals as goal

pub loop-kind-preserved : goal.loop-kind-preserved
loop-kind-preserved c =
    kind_step _ _ _ _ _ _ _ _ c.loop-kind-test.true c.in_ok-take_options.ensures (sym (named_rows c.row_of.result.now.options.now) ∙ ap (map (λ row. name_of row.option)) c.row_of.ensures.options) c.loop-kind.invariant
