use Rattle.std.proofs.Common.{sym, ◌∙◌}
use Rattle.std.proofs.lemmas.Str.{IsCharBoundary-after_ascii}
use Rattle.tcl_text.proofs.ElementLemmas.{gives_behind, gives_extra}
use Rattle.tcl_text.proofs.splitting.behind_closing.Goals as goal

pub range_from-behind-requires : goal.range_from-behind-requires
range_from-behind-requires c = λ _. IsCharBoundary-after_ascii c.args.text.now c.args.at c.utf8.text c.requires.inside c.requires.closing

pub returns-then-is_behind_element : goal.returns-then-is_behind_element
returns-then-is_behind_element c =
    gives_behind c.args.text.now c.as_bytes.result.now c.args.at c.range_from-behind.result c.requires.inside c.range_from-behind.ensures.value c.as_bytes.ensures.value (sym c.is_behind_element.ensures ∙ c.if-is_behind_element.true)

pub returns-else-is_behind_element : goal.returns-else-is_behind_element
returns-else-is_behind_element c =
    gives_extra c.args.text.now c.as_bytes.result.now c.args.at (c.as_bytes.ensures.value ∙ c.range_from-behind.ensures.value) (sym c.is_behind_element.ensures ∙ c.if-is_behind_element.false)
