use Rattle.std.proofs.Common.{sym, ap, ◌∙◌, ◌++◌, ℕ, List, arith, take}
use Rattle.std.specs.String.{string_bytes}
use Rattle.tcl_text.specs.ListSteps.{each_behind}
use Rattle.tcl_text.proofs.ListLemmas.{behind_step, regroup}
use Rattle.tcl_text.proofs.commands.lists.push_behind.Goals as goal

pub loop-item-preserved : goal.loop-item-preserved
loop-item-preserved c =
    let old = string_bytes c.args.string.now in
    let before = each_behind c.args.between.now (take c.loop-item.item-index c.args.items.now) in
    let step = behind_step c.args.between.now c.args.items.now c.loop-item.item-index c.item-item.result (omega arith) c.item-item.is in
    c.in_ok-push_str-2.ensures.bytes ∙ ap (λ (t : List ℕ). t ++ c.as_str.result.now) (c.in_ok-push_str.ensures.bytes ∙ ap (λ (t : List ℕ). t ++ c.args.between.now) c.loop-item.invariant) ∙ ap (λ (t : List ℕ). ((old ++ before) ++ c.args.between.now) ++ t) c.as_str.ensures.bytes ∙ regroup old before c.args.between.now c.item-item.result ∙ sym (ap (λ (t : List ℕ). old ++ t) step)
