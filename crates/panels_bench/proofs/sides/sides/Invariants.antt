use Rattle.std.proofs.Common.{drop}
use Rattle.panels_bench.proofs.PanelLemmas.{Continues}
use Rattle.panels_bench.proofs.sides.sides.Given as goal

-- what the tables that are left say stands behind what those before said
abbrev pub invariant-loop-part : goal.invariant-loop-part
invariant-loop-part g l = Continues l.parts (drop l.part-index l.parts) l.panels.items l.sides.items
