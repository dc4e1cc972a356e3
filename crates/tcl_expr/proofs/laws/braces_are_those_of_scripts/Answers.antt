use Rattle.tcl_expr.proofs.BracesOfScripts.{braces_read, unclosed_read, braces_cut, unclosed_cut}
use Rattle.tcl_expr.proofs.laws.braces_are_those_of_scripts.Goals as goal

pub returns-clause-braced : goal.returns-clause-braced
returns-clause-braced c = braces_read

pub returns-clause-unclosed : goal.returns-clause-unclosed
returns-clause-unclosed c = unclosed_read

pub returns-clause-only_braced : goal.returns-clause-only_braced
returns-clause-only_braced c = braces_cut c.braces_are_cut.ensures

pub returns-clause-only_unclosed : goal.returns-clause-only_unclosed
returns-clause-only_unclosed c = unclosed_cut c.braces_are_cut.ensures
