use Rattle.std.proofs.Common.{◌≡◌, ◌++◌, drop, map, string_bytes}
use Rattle.std.specs.Prelude.{filter}
use Rattle.panels_bench.specs.Messages.{told}
use Rattle.panels_bench.specs.Slots.{slot_of_finding}
use Rattle.panels_report.specs.Cases.{found_words, is_slot}
use Rattle.panels_report.proofs.cases.push_findings.Given as goal

abbrev pub invariant-loop-finding : goal.invariant-loop-finding
invariant-loop-finding l =
    map string_bytes l.problems.items
    ++ map (told l.read.bench l.read.lines.items) (filter (λ finding. is_slot (slot_of_finding l.read.bench finding) l.slot) (drop l.finding-index l.played.findings.items))
    ≡ map string_bytes l.fn.problems.items ++ found_words l.read l.played l.slot
