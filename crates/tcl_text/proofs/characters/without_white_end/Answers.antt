use Rattle.std.proofs.Common.{rules, sym, ◌∙◌}
use Rattle.tcl_text.proofs.CharacterLemmas.{drop_white_end-white, drop_white_end-dark}
use Rattle.tcl_text.proofs.characters.without_white_end.Goals as goal

pub returns-then-not-is_white_char : goal.returns-then-not-is_white_char
returns-then-not-is_white_char c = drop_white_end-dark _ _ _ c.in-Some.ensures.cut (sym c.if-not-is_white_char.ensures) ∙ c.loop-before.invariant.1

pub loop-before-preserved : goal.loop-before-preserved
loop-before-preserved c = (search rules, drop_white_end-white _ _ _ c.in-Some.ensures.cut (sym c.if-not-is_white_char.ensures) ∙ c.loop-before.invariant.1)
