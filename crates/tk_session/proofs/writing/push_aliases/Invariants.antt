use Rattle.std.proofs.Common.{◌≡◌, ◌++◌, take}
use Rattle.std.specs.Prelude.{flat_map}
use Rattle.tk_session.specs.Writing.{alias_text}
use Rattle.tk_session.proofs.writing.push_aliases.Given as goal

-- what was gone over is written
abbrev pub invariant-loop-alias : goal.invariant-loop-alias
invariant-loop-alias l = l.text.items ≡ l.fn.text.items ++ flat_map alias_text (take l.alias-index l.aliases)
