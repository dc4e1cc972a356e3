use Rattle.tk_packer.specs.Standing.{IsStanding, SameInputs, standing_of}
use Rattle.tk_packer.proofs.Sets.{top}
use Rattle.tk_packer.proofs.resizing.resize_all.Given as goal

-- what is kept is right, but for what is still to be looked at, and no window is another
abbrev pub invariant-loop-place : goal.invariant-loop-place
invariant-loop-place l = record { standing : IsStanding (standing_of l.windows); same : SameInputs (standing_of l.initial.windows) (standing_of l.windows) }

abbrev pub decreases-loop-place : goal.decreases-loop-place
decreases-loop-place l = top l.windows.resize.keys
