use Rattle.std.proofs.Common.{◌∷◌, ◌++◌, [], List, Option, None, ap, ◌∙◌, sym}
use Rattle.std.proofs.lemmas.List.{map_more}
use Rattle.tk_base.specs.declared.rect.Rect.{Rect}
use Rattle.tk_packer.specs.declared.request.Request.{Request}
use Rattle.tk_packer.proofs.Gets.{within_get}
use Rattle.tk_packer.proofs.rearranging.nowhere.Goals as goal

pub loop-index-preserved : goal.loop-index-preserved
loop-index-preserved c =
    let request = within_get c.args.requests.now c.loop-index._index c.loop-index-test.true in
    c.in_ok-push.ensures.items ∙ ap (λ (places : List (Option Rect)). places ++ None ∷ []) c.loop-index.invariant
    ∙ sym (map_more (λ (r : Request). None) c.args.requests.now c.loop-index._index request.0 c.loop-index-test.true)
