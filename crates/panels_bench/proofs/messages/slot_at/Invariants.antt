use Rattle.std.proofs.Common.{◌≡◌, ◌+◌, ◌-◌, drop}
use Rattle.panels_bench.specs.Slots.{slot_among}
use Rattle.panels_bench.proofs.messages.slot_at.Given as goal

-- the panels before this one have those lines that are no longer counted
abbrev pub invariant-loop-slot : goal.invariant-loop-slot
invariant-loop-slot l = l.slot + slot_among l.left (drop l.slot l.panels) ≡ slot_among (l.line - 1) l.panels
