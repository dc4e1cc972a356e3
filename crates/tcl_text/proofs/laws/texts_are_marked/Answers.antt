use Rattle.tcl_text.proofs.MarkLemmas.{marks_marked, only_marks}
use Rattle.tcl_text.proofs.laws.texts_are_marked.Goals as goal

pub returns-clause-equation : goal.returns-clause-equation
returns-clause-equation c = marks_marked

pub returns-clause-only : goal.returns-clause-only
returns-clause-only c = only_marks
