use Rattle.tcl_words.proofs.LinesText.{lines_script}
use Rattle.tcl_words.proofs.laws.lines_are_a_script.Goals as goal

pub returns : goal.returns
returns c = lines_script
