use Rattle.std.proofs.Common.{◌≡◌, take}
use Rattle.std.specs.List.{flat_map}
use Rattle.tkhost.proofs.Told.{section_of}
use Rattle.tkhost.proofs.playing.sections.Given as goal

abbrev pub invariant-loop-slot : goal.invariant-loop-slot
invariant-loop-slot g l = l.text.items ≡ flat_map section_of (take l.slot l.host.held.parts)
