use Rattle.std.proofs.Common.{◌≡◌, ◌++◌, take}
use Rattle.tk_session.proofs.writing.are_same_aliases.Given as goal

-- what was gone over is the same
abbrev pub invariant-loop-alias : goal.invariant-loop-alias
invariant-loop-alias l = l.others ≡ take l.alias-index l.aliases ++ l.rest
