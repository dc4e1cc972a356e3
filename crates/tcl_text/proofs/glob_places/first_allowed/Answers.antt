use Rattle.std.proofs.Common.{arith}
use Rattle.tcl_text.proofs.GlobPlaces.{passed_none, passed_more}
use Rattle.tcl_text.proofs.glob_places.first_allowed.Goals as goal

pub loop-at-init : goal.loop-at-init
loop-at-init c = passed_none _ _ c.requires.some

pub loop-at-preserved : goal.loop-at-preserved
loop-at-preserved c = passed_more _ c.args.parts c.loop-at.at _ c.requires.some c.requires.few c.loop-at.invariant c.if-allowed-parts-eq1.false

pub returns-then-allowed-parts-eq1 : goal.returns-then-allowed-parts-eq1
returns-then-allowed-parts-eq1 c = λ place below all. c.loop-at.invariant.none place (omega arith) all

pub returns : goal.returns
returns c = λ place below all. c.loop-at.invariant.none place (omega arith) all
