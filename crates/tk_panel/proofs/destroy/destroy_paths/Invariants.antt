use Rattle.std.proofs.Common.{length}
use Rattle.tk_panel.specs.Destroy.{destroys}
use Rattle.tk_panel.specs.Shared.{panel_of}
use Rattle.tk_panel.proofs.Others.{Carries}
use Rattle.tk_panel.proofs.destroy.destroy_paths.Given as goal

-- the paths before mean no window whose Destroy event has scripts
abbrev pub invariant-loop-path : goal.invariant-loop-path
invariant-loop-path l = Carries (destroys l.paths (panel_of l.slot l.tables)) (destroys l.fn.paths (panel_of l.slot l.fn.tables)) l.slot l.fn.tables l.tables

abbrev pub decreases-loop-path : goal.decreases-loop-path
decreases-loop-path l = length l.paths
