use Rattle.std.proofs.Common.{◌≡◌, Some, None, refl, sym, ◌∙◌}
use Rattle.tk_patterns.specs.Filing.{has_few}
use Rattle.tk_patterns.proofs.RestLemmas.{fewer}
use Rattle.tk_patterns.proofs.Reached.{next, all_done}
use Rattle.tk_patterns.proofs.winning.holder_among.Goals as goal

pub loop-stamp-init : goal.loop-stamp-init
loop-stamp-init c = record {
  from = 0;
  keys = c.stamps_of_key-by_key.ensures;
  buttons = c.stamps_of_button-by_button.ensures;
  alls = c.requires.any;
  names = c.requires.named;
  held = refl;
}

pub loop-stamp-preserved : goal.loop-stamp-preserved
loop-stamp-preserved c =
    let it = next c.args.event.now c.args.history.now c.args.virtuals.now c.args.tag.now c.args.kind (has_few c.args.tag.now c.args.kind c.args.event.now c.args.virtuals.now c.args.filed.now) c.args.bindings.now c.args.filed.now c.requires.kind c.requires.rising c.requires.filed _ _ _ _ _ c.in-Some.stamp c.loop-stamp.invariant (sym c.in-Some.ensures) in
    let is : Some c.in-Some-binding_at.binding.now ≡ Some it.binding = c.in-Some-binding_at.ensures it.place it.there ∙ it.is in
    let same : c.in-Some-binding_at.binding.now ≡ it.binding = cc in
    rw (c.past-by_key.ensures, c.past-by_button.ensures, c.past-any.ensures, c.past-named.ensures, c.after_tagged-holder.ensures, same) it.after

pub loop-stamp-smaller : goal.loop-stamp-smaller
loop-stamp-smaller c =
    rw (c.past-by_key.ensures, c.past-by_button.ensures, c.past-any.ensures, c.past-named.ensures) (fewer c.in-Some.stamp _ _ _ _ (sym c.in-Some.ensures))

pub returns-in_default-binding_at : goal.returns-in_default-binding_at
returns-in_default-binding_at c =
    let it = next c.args.event.now c.args.history.now c.args.virtuals.now c.args.tag.now c.args.kind (has_few c.args.tag.now c.args.kind c.args.event.now c.args.virtuals.now c.args.filed.now) c.args.bindings.now c.args.filed.now c.requires.kind c.requires.rising c.requires.filed _ _ _ _ _ c.in-Some.stamp c.loop-stamp.invariant (sym c.in-Some.ensures) in
    absurd (let is : None ≡ Some it.binding = c.in_default-binding_at.ensures it.place it.there ∙ it.is in cc)

pub returns : goal.returns
returns c =
    all_done c.args.event.now c.args.history.now c.args.virtuals.now c.args.tag.now c.args.kind (has_few c.args.tag.now c.args.kind c.args.event.now c.args.virtuals.now c.args.filed.now) c.args.bindings.now c.args.filed.now c.requires.kind c.requires.rising c.requires.filed _ _ _ _ _ c.loop-stamp.invariant (sym c.first_of_all.ensures ∙ c.in_default.is)
