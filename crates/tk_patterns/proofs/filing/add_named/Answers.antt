use Rattle.std.proofs.Common.{◌+◌, Some, drop, sym, ap, ◌∙◌}
use Rattle.std.specs.Option.{option_copied}
use Rattle.tk_patterns.specs.Filing.{all_named, without_repeats}
use Rattle.tk_patterns.proofs.OrderLemmas.{repeat_past, repeat_more}
use Rattle.tk_patterns.proofs.filing.add_named.Goals as goal

pub loop-pair-preserved-then-is_repeat : goal.loop-pair-preserved-then-is_repeat
loop-pair-preserved-then-is_repeat c =
    ap (all_named c.args.tag.now c.args.filed.now c.loop-pair.stamps.keys) (sym (repeat_past (option_copied c.loop-pair.last) c.args.pairs.now c.loop-pair.pair-index c.pair-item.result c.loop-pair-test.true c.pair-item.is (sym c.if-is_repeat.ensures)))
    ∙ c.loop-pair.invariant

pub loop-pair-preserved : goal.loop-pair-preserved
loop-pair-preserved c =
    ap (λ keys. all_named c.args.tag.now c.args.filed.now keys (without_repeats (Some c.pair-item.result.name) (drop (c.loop-pair.pair-index + 1) c.args.pairs.now))) c.in_ok-add_name.ensures
    ∙ ap (all_named c.args.tag.now c.args.filed.now c.loop-pair.stamps.keys) (sym (repeat_more (option_copied c.loop-pair.last) c.args.pairs.now c.loop-pair.pair-index c.pair-item.result c.loop-pair-test.true c.pair-item.is (sym c.if-is_repeat.ensures)))
    ∙ c.loop-pair.invariant
