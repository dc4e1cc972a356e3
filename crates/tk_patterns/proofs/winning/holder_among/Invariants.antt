use Rattle.std.proofs.Common.{◌+◌, length, option_map}
use Rattle.tk_patterns.specs.Filing.{has_few}
use Rattle.tk_patterns.specs.Shown.{shown}
use Rattle.tk_patterns.proofs.Reached.{Reached}
use Rattle.tk_patterns.proofs.winning.holder_among.Given as goal

abbrev pub invariant-loop-stamp : goal.invariant-loop-stamp
invariant-loop-stamp l = Reached l.event l.history l.virtuals l.tag l.fn.kind (has_few l.tag l.fn.kind l.event l.virtuals l.filed) l.bindings l.filed l.by_key l.by_button l.any l.named (option_map shown l.holder)

abbrev pub decreases-loop-stamp : goal.decreases-loop-stamp
decreases-loop-stamp l = length l.by_key + length l.by_button + (length l.any + length l.named)
