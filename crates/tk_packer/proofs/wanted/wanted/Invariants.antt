use Rattle.std.proofs.Common.{◌≡◌, ◌≤◌, min, drop}
use Rattle.tk_packer.specs.Parcels.{asks_of, wanted, most_wanted}
use Rattle.tk_packer.specs.Loops.{reached}
use Rattle.tk_packer.proofs.wanted.wanted.Given as goal

-- what is wanted so far, and by the rest
abbrev pub invariant-loop-request : goal.invariant-loop-request
invariant-loop-request l = record {
  reached : reached l.reach (asks_of l.axis (drop l.request-index l.requests)) ≡ min (wanted (asks_of l.axis l.requests)) most_wanted;
  along : l.reach.along ≤ most_wanted;
  most : l.reach.most ≤ most_wanted;
}
