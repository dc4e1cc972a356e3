use Rattle.std.proofs.Common.{◌≡◌, ◌++◌, drop, map, string_bytes}
use Rattle.panels_text.specs.Meant.{likely_in, plain}
use Rattle.panels_text.proofs.meant.take_own.Given as goal

-- what was found, and what is found in what is left, is all
abbrev pub invariant-loop-name : goal.invariant-loop-name
invariant-loop-name l = plain l.found.items ++ likely_in l.word (map string_bytes (drop l.name-index l.own)) ≡ plain l.initial.found.items ++ likely_in l.word (map string_bytes l.own)
