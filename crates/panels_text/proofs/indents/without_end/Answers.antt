use Rattle.std.proofs.lemmas.Str.Ascii.{trim_ascii_end_is}
use Rattle.panels_text.proofs.indents.without_end.Goals as goal

pub returns : goal.returns
returns c = trim_ascii_end_is c.args.row.now c.trim_ascii_end.result.now c.trim_ascii_end.ensures.value
