use Rattle.std.proofs.Common.{◌∙◌}
use Rattle.tcl_text.proofs.SeparatorLemmas.{looked_up}
use Rattle.tcl_text.proofs.commands.splits.is_one_of.Goals as goal

pub returns : goal.returns
returns c = c.is_ok.ensures.value ∙ looked_up c.args.separators.now c.args.character c.binary_search.result c.requires c.binary_search.ensures.position
