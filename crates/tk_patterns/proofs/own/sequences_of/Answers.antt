use Rattle.std.proofs.Common.{◌+◌, ◌∷◌, [], ◌++◌, drop, sym, ap, ◌∙◌, append_assoc}
use Rattle.tk_patterns.specs.Own.{sequences_of}
use Rattle.tk_patterns.proofs.BindLemmas.{sequences_here, sequences_past}
use Rattle.tk_patterns.proofs.own.sequences_of.Goals as goal

pub loop-binding-preserved-then-not-has_tag : goal.loop-binding-preserved-then-not-has_tag
loop-binding-preserved-then-not-has_tag c =
    ap (λ rest. c.loop-binding.list.items ++ rest) (sym (sequences_past c.args.tag.now c.args.bindings.now c.loop-binding.binding-index c.binding-item.result c.loop-binding-test.true c.binding-item.is (sym c.if-not-has_tag.ensures)))
    ∙ c.loop-binding.invariant

pub loop-binding-preserved : goal.loop-binding-preserved
loop-binding-preserved c =
    let rest = sequences_of c.args.tag.now (drop (c.loop-binding.binding-index + 1) c.args.bindings.now) in
    ap (λ list. list ++ rest) c.in_ok-push.ensures.items
    ∙ append_assoc c.loop-binding.list.items (c.in_ok-sequence.sequence ∷ []) rest
    ∙ ap (λ sequence. c.loop-binding.list.items ++ sequence ∷ rest) c.in_ok-sequence.ensures
    ∙ ap (λ rest. c.loop-binding.list.items ++ rest) (sym (sequences_here c.args.tag.now c.args.bindings.now c.loop-binding.binding-index c.binding-item.result c.loop-binding-test.true c.binding-item.is (sym c.if-not-has_tag.ensures)))
    ∙ c.loop-binding.invariant
