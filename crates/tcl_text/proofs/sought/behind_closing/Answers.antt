use Rattle.std.proofs.Common.{◌+◌, ◌∙◌, sym}
use Rattle.std.proofs.lemmas.List.{take_rest}
use Rattle.tcl_text.proofs.ElementLemmas.{gives_extra, gives_rest}
use Rattle.tcl_text.proofs.sought.behind_closing.Goals as goal

pub returns-then-is_behind_element : goal.returns-then-is_behind_element
returns-then-is_behind_element c =
    let text = c.args.text.now in
    let at = c.args.at in
    gives_rest text _ at c.requires.inside (take_rest text (at + 1)) (sym c.is_behind_element.ensures ∙ c.if-is_behind_element.true)

pub returns-else-is_behind_element : goal.returns-else-is_behind_element
returns-else-is_behind_element c =
    let text = c.args.text.now in
    let at = c.args.at in
    gives_extra text _ at (take_rest text (at + 1)) (sym c.is_behind_element.ensures ∙ c.if-is_behind_element.false)
