use Rattle.std.proofs.Common.{◌≡◌, take, map}
use Rattle.tkhost.specs.Play.{service_of}
use Rattle.tkhost.proofs.services.aliases_of.Given as goal

abbrev pub invariant-loop-line : goal.invariant-loop-line
invariant-loop-line g l = l.aliases ≡ map service_of (take l.line-index l.lines)
