use Rattle.std.proofs.Common.{◌≡◌, map, take}
use Rattle.tk_after.specs.After.{name_of}
use Rattle.tk_after.proofs.after.names.Given as goal

-- the names of the numbers so far
abbrev pub invariant-loop-id : goal.invariant-loop-id
invariant-loop-id l = l.names.items ≡ map name_of (take l.id-index l.id-items)
