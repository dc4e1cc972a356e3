use Rattle.std.proofs.Common.{◌≡◌, ◌++◌, length}
use Rattle.panels.specs.Typing.{releasing}
use Rattle.panels.proofs.typing.push_releases.Given as goal

abbrev pub decreases-loop-rest : goal.decreases-loop-rest
decreases-loop-rest l = length l.rest

-- those that are let go, and those that are left, are all
abbrev pub invariant-loop-rest : goal.invariant-loop-rest
invariant-loop-rest l = l.lines.items ++ releasing l.rest ≡ l.fn.lines.items ++ releasing l.keys
