use Rattle.std.proofs.Common.{◌≡◌, ◌++◌, drop, map, string_bytes}
use Rattle.std.specs.Prelude.{flat_map}
use Rattle.panels_text.specs.Reports.{comments}
use Rattle.panels_text.proofs.formats.push_problems.Given as goal

-- what was added, and what is left, is all
abbrev pub invariant-loop-problem : goal.invariant-loop-problem
invariant-loop-problem l = string_bytes l.text ++ flat_map comments (map string_bytes (drop l.problem-index l.problems)) ≡ string_bytes l.initial.text ++ flat_map comments (map string_bytes l.problems)
