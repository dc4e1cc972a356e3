use Rattle.std.proofs.Common.{◌≡◌, ◌++◌, map, take}
use Rattle.tk_app.specs.Names.{command_of}
use Rattle.tk_app.proofs.names.push_kinds.Given as goal

abbrev pub invariant-loop-kind : goal.invariant-loop-kind
invariant-loop-kind l = l.names.items ≡ l.fn.names.items ++ map command_of (take l.kind-index l.kinds)
