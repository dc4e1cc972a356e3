use Rattle.std.proofs.Common.{◌≡◌, drop, map}
use Rattle.panels_report.specs.Cases.{told}
use Rattle.panels_report.specs.Idle.{tell_lines, telling}
use Rattle.panels_report.proofs.idle.tell_lines.Given as goal

abbrev pub invariant-loop-number : goal.invariant-loop-number
invariant-loop-number l =
    tell_lines l.panels l.notes l.number (drop l.number l.events) (telling l.count (map told l.cases)) ≡ tell_lines l.panels l.notes 0 l.events (telling 0 (map told l.fn.cases))
