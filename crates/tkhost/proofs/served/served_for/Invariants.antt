use Rattle.std.proofs.Common.{◌≡◌, take, map}
use Rattle.tkhost.specs.Play.{service_of}
use Rattle.tkhost.proofs.served.served_for.Given as goal

abbrev pub invariant-loop-line : goal.invariant-loop-line
invariant-loop-line l = l.aliases ≡ map service_of (take l.line-index l.lines)
