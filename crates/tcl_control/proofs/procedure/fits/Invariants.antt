use Rattle.std.proofs.Common.{◌≡◌, length}
use Rattle.tcl_control.specs.Procedures.{fits}
use Rattle.tcl_control.proofs.procedure.fits.Given as goal

abbrev pub invariant-parameters : goal.invariant-parameters
invariant-parameters l = fits l.left l.rest ≡ fits l.parameters l.words

abbrev pub decreases-parameters : goal.decreases-parameters
decreases-parameters l = length l.left
