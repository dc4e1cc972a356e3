use Rattle.tk_packer.specs.Standing.{standing_of}
use Rattle.tk_packer.proofs.Rooms.{ArePlaced}
use Rattle.tk_packer.proofs.rearranging.put_all.Given as goal

-- the slaves so far lie at their places
abbrev pub invariant-loop-index : goal.invariant-loop-index
invariant-loop-index l = ArePlaced (standing_of l.initial.windows) (standing_of l.windows) l.master l.places l.index
