use Rattle.std.proofs.Common.{◌≡◌, ◌++◌, take}
use Rattle.tk_alias.proofs.kinds.followed_by.Given as goal

abbrev pub invariant-loop-arg : goal.invariant-loop-arg
invariant-loop-arg l = l.items ≡ l.initial.items ++ take l.arg-index l.args
