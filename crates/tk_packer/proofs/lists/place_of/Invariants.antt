use Rattle.std.proofs.Common.{◌≢◌, ◌-◌, ◌≤◌, length}
use Rattle.std.specs.List.{AllWithin}
use Rattle.tk_packer.proofs.lists.place_of.Given as goal

-- it stands neither before nor behind those that are left
abbrev pub invariant-loop-front : goal.invariant-loop-front
invariant-loop-front l =
    (l.back ≤ length l.slaves) × AllWithin (λ packed. packed.number ≢ l.number) l.slaves 0 l.front
    × AllWithin (λ packed. packed.number ≢ l.number) l.slaves l.back (length l.slaves)

abbrev pub decreases-loop-front : goal.decreases-loop-front
decreases-loop-front l = l.back - l.front
