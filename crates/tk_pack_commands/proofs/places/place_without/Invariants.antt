use Rattle.std.proofs.Common.{◌≡◌, ◌+◌, ◌≤◌, drop}
use Rattle.tk_packer.specs.Packs.{without}
use Rattle.tk_pack_commands.specs.Places.{place_of}
use Rattle.tk_pack_commands.proofs.places.place_without.Given as goal

-- the slaves passed, and its place in the rest
abbrev pub invariant-loop-packed : goal.invariant-loop-packed
invariant-loop-packed l =
    (l.place ≤ l.packed-index)
    × (l.place + place_of l.number (without l.left_out (drop l.packed-index l.slaves)) ≡ place_of l.number (without l.left_out l.slaves))
