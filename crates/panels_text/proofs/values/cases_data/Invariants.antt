use Rattle.std.proofs.Common.{◌≡◌, ◌++◌, drop, map}
use Rattle.serde_json.specs.View.{view}
use Rattle.panels_text.specs.Reports.{case_data}
use Rattle.panels_text.proofs.values.cases_data.Given as goal

-- those that were made, and those of what is left, are all
abbrev pub invariant-loop-case : goal.invariant-loop-case
invariant-loop-case l = map view l.values.items ++ map case_data (drop l.case-index l.cases) ≡ map case_data l.cases
