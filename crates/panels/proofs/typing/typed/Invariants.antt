use Rattle.std.proofs.Common.{◌≡◌, ◌++◌, drop, option_map}
use Rattle.panels.specs.Typing.{typed}
use Rattle.panels.proofs.typing.typed.Given as goal

-- the lines so far, and those of what is left, are all
abbrev pub invariant-loop-byte : goal.invariant-loop-byte
invariant-loop-byte l = option_map (λ others. l.lines.items ++ others) (typed (drop l.byte-index l.text)) ≡ typed l.text
