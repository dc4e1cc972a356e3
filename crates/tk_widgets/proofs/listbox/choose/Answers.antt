use Rattle.std.proofs.Common.{◌≡◌, ◌+◌, ◌<◌, Bool, List, length, set, get_or, ap, ◌∙◌, arith}
use Rattle.tk_widgets.specs.declared.items.Item.{Item}
use Rattle.tk_widgets.proofs.Chosen.{changed, chosen_from-more}
use Rattle.tk_widgets.proofs.listbox.choose.Goals as goal

pub loop-place-preserved : goal.loop-place-preserved
loop-place-preserved c =
    let p = c.loop-place.place in
    let d = c.index-items-place.result in
    let lt : p < length c.args.items.now = omega arith in
    let at : 0 + p ≡ p = omega arith in
    ap (λ (b : Bool). set c.loop-place.items p (record { text = (get_or c.loop-place.items p d).text; selected = b })) c.after-item.ensures
    ∙ ap (λ (now : List Item). set now p (changed c.args.how p (get_or now p d))) c.loop-place.invariant
    ∙ chosen_from-more c.args.how 0 p c.args.items.now p d at lt
