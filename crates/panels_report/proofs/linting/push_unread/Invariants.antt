use Rattle.std.proofs.Common.{◌≡◌, ◌++◌, drop, map}
use Rattle.panels_report.specs.Lint.{told, unread_told}
use Rattle.panels_report.proofs.linting.push_unread.Given as goal

abbrev pub invariant-loop-script : goal.invariant-loop-script
invariant-loop-script l = map told l.wrong.items ++ map unread_told (drop l.script-index l.unread) ≡ map told l.fn.wrong.items ++ map unread_told l.unread
