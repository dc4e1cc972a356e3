use Rattle.std.proofs.Common.{◌≡◌, drop, length, map}
use Rattle.panels_report.specs.Cases.{told}
use Rattle.panels_report.proofs.Casing.{AreMade}
use Rattle.panels_report.proofs.cases.cases_of.Given as goal

abbrev pub invariant-loop-slot : goal.invariant-loop-slot
invariant-loop-slot l = record {
  count : length l.cases.items ≡ l.slot;
  made : AreMade l.file l.read l.played l.wanted l.read.sides.items l.slot (drop l.slot l.read.sides.items) (map told l.cases.items);
}
