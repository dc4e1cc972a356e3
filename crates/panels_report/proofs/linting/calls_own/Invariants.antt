use Rattle.std.proofs.Common.{◌≡◌, drop, map, string_bytes}
use Rattle.panels_text.specs.Asking.{has_name}
use Rattle.panels_report.proofs.linting.calls_own.Given as goal

-- none before is it
abbrev pub invariant-loop-name : goal.invariant-loop-name
invariant-loop-name l = has_name (map string_bytes (drop l.name-index l.own)) l.first ≡ has_name (map string_bytes l.own) l.first
