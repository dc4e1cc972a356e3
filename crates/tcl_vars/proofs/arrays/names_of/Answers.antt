-- One name more.
use Rattle.std.proofs.Common.{◌++◌, ◌∷◌, [], ◌∙◌, sym, ap, take, map}
use Rattle.tcl_vars.proofs.ArrayLemmas.{names-more}
use Rattle.tcl_vars.proofs.arrays.names_of.Goals as goal

pub loop-place-preserved : goal.loop-place-preserved
loop-place-preserved c =
    c.in_ok-push.ensures.ok ∙ ap (λ l. l ++ c.in_ok-text_from.field-0 ∷ []) c.loop-place.invariant
    ∙ ap (λ t. map (λ e. e.0) (take c.loop-place.place c.args.elements.now) ++ t ∷ []) c.in_ok-text_from.ensures
    ∙ sym (names-more c.args.elements.now c.loop-place.place (c.at.result.0.now, c.at.result.1.now) c.at.ensures.entry)
