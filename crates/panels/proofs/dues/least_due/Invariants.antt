use Rattle.std.proofs.Common.{◌≡◌, None, drop, map}
use Rattle.panels.specs.Dues.{least_due}
use Rattle.panels.proofs.dues.least_due.Given as goal

abbrev pub invariant-loop-timer : goal.invariant-loop-timer
invariant-loop-timer l =
    least_due l.reached l.least (map (λ line. line.now) (drop l.timer-index l.timers)) ≡ least_due l.reached None (map (λ line. line.now) l.timers)
