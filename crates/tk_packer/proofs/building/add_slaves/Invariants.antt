use Rattle.std.proofs.Common.{◌≡◌, set, take}
use Rattle.tk_packer.specs.Standing.{IsStanding, packed_of, standing_of}
use Rattle.tk_packer.proofs.building.add_slaves.Given as goal

-- those so far are packed in the window
abbrev pub invariant-loop-slave : goal.invariant-loop-slave
invariant-loop-slave l = record {
  standing : IsStanding (record (standing_of l.windows) { slaves = set l.windows.slaves.items l.master l.list.items });
  parts : standing_of l.windows ≡ record (standing_of l.initial.windows) { slots = l.windows.slots.items };
  packed : packed_of l.list.items ≡ take l.slave-index l.packed;
}
