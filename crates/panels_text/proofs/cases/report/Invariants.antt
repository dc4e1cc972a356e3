use Rattle.std.proofs.Common.{◌≡◌, ◌++◌, drop, string_bytes}
use Rattle.std.specs.Prelude.{flat_map}
use Rattle.panels_text.specs.Reports.{case_lines}
use Rattle.panels_text.proofs.cases.report.Given as goal

-- what was added, and what is left, is all
abbrev pub invariant-loop-case : goal.invariant-loop-case
invariant-loop-case l = string_bytes l.text ++ flat_map case_lines (drop l.case-index l.cases) ≡ string_bytes l.initial.text ++ flat_map case_lines l.cases
