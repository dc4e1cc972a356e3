-- One pair more.
use Rattle.std.proofs.Common.{◌++◌, ◌∷◌, [], ◌∙◌, sym, ap, take}
use Rattle.tcl_vars.specs.Store.{pairs_of}
use Rattle.tcl_vars.proofs.ArrayLemmas.{pairs-more}
use Rattle.tcl_vars.proofs.arrays.pairs_of.Goals as goal

pub loop-place-preserved : goal.loop-place-preserved
loop-place-preserved c =
    c.in_ok-push-2.ensures.ok
    ∙ ap (λ l. l ++ c.in_ok-copy.field-0 ∷ []) (c.in_ok-push.ensures.ok ∙ ap (λ l. l ++ c.in_ok-text_from.field-0 ∷ []) c.loop-place.invariant
    ∙ ap (λ t. pairs_of (take c.loop-place.place c.args.elements.now) ++ t ∷ []) c.in_ok-text_from.ensures)
    ∙ ap (λ t. (pairs_of (take c.loop-place.place c.args.elements.now) ++ c.at.result.0.now ∷ []) ++ t ∷ []) c.in_ok-copy.ensures.ok
    ∙ sym (pairs-more c.args.elements.now c.loop-place.place (c.at.result.0.now, c.at.result.1.now) c.at.ensures.entry)
