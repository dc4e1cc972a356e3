use Rattle.std.proofs.Common.{length}
use Rattle.tcl_text.proofs.GlobPlaces.{AllowedFrom, KeptFrom, OfBytes}
use Rattle.tcl_text.proofs.glob_places.keep_allowed.Given as goal

abbrev pub invariant-loop-at : goal.invariant-loop-at
invariant-loop-at l =
    AllowedFrom (OfBytes l.masks l.bytes) (length l.bytes) l.parts l.at l.allowed × KeptFrom (OfBytes l.masks l.bytes) l.parts l.fn.alive l.alive l.at
