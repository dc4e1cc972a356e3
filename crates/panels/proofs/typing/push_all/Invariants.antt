use Rattle.std.proofs.Common.{◌≡◌, ◌++◌, take}
use Rattle.panels.specs.Typing.{pressing}
use Rattle.panels.proofs.typing.push_all.Given as goal

abbrev pub invariant-loop-key : goal.invariant-loop-key
invariant-loop-key l = l.lines.items ≡ l.fn.lines.items ++ pressing (take l.key-index l.keys)
