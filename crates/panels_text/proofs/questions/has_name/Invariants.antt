use Rattle.std.proofs.Common.{◌≡◌, drop, map, string_bytes}
use Rattle.panels_text.specs.Asking.{has_name}
use Rattle.panels_text.proofs.questions.has_name.Given as goal

-- none before is it
abbrev pub invariant-loop-own : goal.invariant-loop-own
invariant-loop-own l = has_name (map string_bytes (drop l.own-index l.names)) l.name ≡ has_name (map string_bytes l.names) l.name
