use Rattle.std.proofs.Common.{◌≡◌, length}
use Rattle.tk_generate.specs.Given.{given_from, nothing_given}
use Rattle.tk_generate.proofs.given.given_in.Given as goal

-- the options that are left, after what was given, say what all say
abbrev pub invariant-loop-name : goal.invariant-loop-name
invariant-loop-name l = given_from l.rest l.given ≡ given_from l.fn.words nothing_given

abbrev pub decreases-loop-name : goal.decreases-loop-name
decreases-loop-name l = length l.rest
