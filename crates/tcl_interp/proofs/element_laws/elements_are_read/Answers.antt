use Rattle.tcl_interp.proofs.Elements.{elements_are_read, only_elements}
use Rattle.tcl_interp.proofs.element_laws.elements_are_read.Goals as goal

pub returns-clause-equation : goal.returns-clause-equation
returns-clause-equation g c = elements_are_read

pub returns-clause-only : goal.returns-clause-only
returns-clause-only g c = only_elements
