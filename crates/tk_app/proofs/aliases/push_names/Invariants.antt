use Rattle.std.proofs.Common.{◌≡◌, ◌++◌, take}
use Rattle.tk_app.specs.Seen.{names_of}
use Rattle.tk_app.proofs.aliases.push_names.Given as goal

abbrev pub invariant-loop-alias : goal.invariant-loop-alias
invariant-loop-alias g l = l.names.items ≡ l.fn.names.items ++ names_of (take l.alias-index l.aliases)
