use Rattle.std.proofs.Common.{◌+◌, length}
use Rattle.tcl_text.specs.GlobSteps.{mask_at}
use Rattle.tcl_text.proofs.GlobPlaces.{AllowedFrom, KeptFrom}
use Rattle.tcl_text.proofs.glob_letters.keep_allowed.Given as goal

abbrev pub invariant-loop-at : goal.invariant-loop-at
invariant-loop-at l =
    AllowedFrom (mask_at 2048 l.low l.letters l.high) (length l.fn.alive + l.parts) l.parts l.at l.allowed
    × KeptFrom (mask_at 2048 l.low l.letters l.high) l.parts l.fn.alive l.alive l.at
