use Rattle.std.proofs.Common.{◌≡◌, drop}
use Rattle.tk_route.specs.Screen.{are_apart}
use Rattle.tk_route.proofs.rects.are_apart.Given as goal

-- what was looked at shares no pixel with what comes after it
abbrev pub invariant-loop-slot : goal.invariant-loop-slot
invariant-loop-slot l = are_apart l.rects ≡ are_apart (drop l.slot l.rects)
