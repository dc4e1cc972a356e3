use Rattle.tcl_words.proofs.BracesCut.{braces_cut}
use Rattle.tcl_words.proofs.laws.braces_are_cut.Goals as goal

pub returns : goal.returns
returns c = braces_cut
