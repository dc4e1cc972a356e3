use Rattle.std.proofs.Common.{◌≡◌, ◌++◌, drop, map, string_bytes}
use Rattle.panels_text.specs.Asking.{front_of, front_words}
use Rattle.panels_text.specs.Roles.{texts_of}
use Rattle.panels_text.specs.Scripts.{said}
use Rattle.panels_text.proofs.questions.front_of.Given as goal

-- what was added, and what is left, is all
abbrev pub invariant-loop-index : goal.invariant-loop-index
invariant-loop-index l = map string_bytes l.front.items ++ front_words l.makes l.first l.count l.index (texts_of (drop l.index l.words)) ≡ front_of (said l.call) l.name l.count
