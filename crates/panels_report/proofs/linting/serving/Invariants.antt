use Rattle.std.proofs.Common.{◌≡◌, drop, map, string_bytes}
use Rattle.panels_report.specs.Lint.{serving}
use Rattle.panels_report.proofs.linting.serving.Given as goal

abbrev pub invariant-loop-place : goal.invariant-loop-place
invariant-loop-place l =
    serving (map string_bytes l.own) l.number (map string_bytes l.answers) l.place (drop l.place l.others) ≡ serving (map string_bytes l.own) l.number (map string_bytes l.answers) 0 l.others
