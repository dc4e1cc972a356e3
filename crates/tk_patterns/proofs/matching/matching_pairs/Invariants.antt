use Rattle.std.proofs.Common.{◌≡◌, take}
use Rattle.tk_patterns.specs.Matching.{matching}
use Rattle.tk_patterns.proofs.matching.matching_pairs.Given as goal

abbrev pub invariant-loop-pair : goal.invariant-loop-pair
invariant-loop-pair l = l.pairs ≡ matching l.event l.history (take l.pair-index l.all)
