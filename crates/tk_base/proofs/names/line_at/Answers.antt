use Rattle.std.proofs.lemmas.Iterator.Consumers.{nth_from_yields_List}
use Rattle.std.proofs.lemmas.Iterator.Splits.{YieldsList-from_lines}
use Rattle.tk_base.proofs.names.line_at.Goals as goal

pub returns : goal.returns
returns c =
    nth_from_yields_List _ _ c.args.place c.nth.ensures.ran
    (YieldsList-from_lines c.args.text.now c.lines.ensures.rest)
