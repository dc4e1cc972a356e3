use Rattle.std.proofs.Common.{◌≡◌, ◌<◌, ◌^◌, length}
use Rattle.tcl_text.specs.Readings.{below, number_from}
use Rattle.tcl_text.proofs.integer.number_from.Given as goal

-- the number so far and what is left spell the number
abbrev pub invariant-loop-rest : goal.invariant-loop-rest
invariant-loop-rest l =
    record {
      fits : l.number < 2 ^ 64;
      spells : below (2 ^ 64) (number_from l.base l.number l.rest) ≡ below (2 ^ 64) (number_from l.fn.base l.fn.number l.fn.digits);
    }

abbrev pub decreases-loop-rest : goal.decreases-loop-rest
decreases-loop-rest l = length l.rest
