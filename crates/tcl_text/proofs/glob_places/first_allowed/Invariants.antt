use Rattle.tcl_text.proofs.GlobPlaces.{AllowedTo, OfBytes}
use Rattle.tcl_text.proofs.glob_places.first_allowed.Given as goal

abbrev pub invariant-loop-at : goal.invariant-loop-at
invariant-loop-at l = AllowedTo (OfBytes l.masks l.bytes) l.parts l.at l.allowed
