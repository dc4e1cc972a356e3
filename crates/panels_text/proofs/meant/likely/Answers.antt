use Rattle.std.proofs.Common.{take, ap, ◌∙◌}
use Rattle.std.proofs.lemmas.Result.{IfOk-weaker}
use Rattle.panels_text.specs.Meant.{distinct, found_words, most_tried}
use Rattle.panels_text.proofs.meant.likely.Goals as goal

pub returns : goal.returns
returns c =
    IfOk-weaker c.first_of.result _ _
    (λ words is. (c.in_ok-found.found.items, c.in_ok-sorted.sorted.items, c.in_ok-found.ensures, c.in_ok-sorted.ensures, is ∙ ap (λ all. take most_tried (distinct (found_words all))) c.as_slice.ensures.value))
    c.first_of.ensures
