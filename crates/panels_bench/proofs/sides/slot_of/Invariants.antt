use Rattle.std.proofs.Common.{◌≡◌, ◌+◌, drop, option_map}
use Rattle.panels_bench.specs.Values.{slot_named}
use Rattle.panels_bench.proofs.sides.slot_of.Given as goal

-- none before has the name
abbrev pub invariant-loop-slot : goal.invariant-loop-slot
invariant-loop-slot l = option_map (λ own. l.slot + own) (slot_named (drop l.slot l.panels) l.name) ≡ slot_named l.panels l.name
