use Rattle.std.proofs.Common.{◌≡◌, ◌++◌, ◌+◌, drop, string_bytes}
use Rattle.panels_text.specs.Reports.{tests_from}
use Rattle.panels_text.proofs.formats.tap.Given as goal

-- what was added, and what is left, is all
abbrev pub invariant-loop-index : goal.invariant-loop-index
invariant-loop-index l = string_bytes l.text ++ tests_from (l.index + 1) (drop l.index l.cases) ≡ string_bytes l.initial.text ++ tests_from 1 l.cases
