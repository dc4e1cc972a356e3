use Rattle.std.proofs.Common.{◌≡◌, length}
use Rattle.tcl_text.specs.Readings.{skip_white}
use Rattle.tcl_text.proofs.white_space.skip_white.Given as goal

-- what is left has the same text behind its white space
abbrev pub invariant-loop-rest : goal.invariant-loop-rest
invariant-loop-rest l = skip_white l.rest ≡ skip_white l.fn.text

abbrev pub decreases-loop-rest : goal.decreases-loop-rest
decreases-loop-rest l = length l.rest
