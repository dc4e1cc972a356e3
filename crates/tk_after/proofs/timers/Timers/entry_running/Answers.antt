use Rattle.tk_after.proofs.Told.{rising_in}
use Rattle.tk_after.proofs.timers.Timers.entry_running.Goals as goal

pub entry_with_script-requires-clause-rising : goal.entry_with_script-requires-clause-rising
entry_with_script-requires-clause-rising c = rising_in c.self.inside.scripts c.self.inside.index c.self.inside.counters.entries c.args.owner c.self.invariant
