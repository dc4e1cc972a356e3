use Rattle.std.proofs.Common.{◌≡◌, ◌++◌, drop, map}
use Rattle.panels_text.specs.Scripts.{brackets_from, brackets_in, depth_of, passage_of}
use Rattle.panels_text.proofs.brackets.brackets_of.Given as goal

-- what was added, and what is left, is all
abbrev pub invariant-loop-byte : goal.invariant-loop-byte
invariant-loop-byte l = map passage_of l.bodies.items ++ brackets_from (depth_of l.brackets) (drop l.byte-index l.text) ≡ map passage_of l.initial.bodies.items ++ brackets_in l.line l.text
