use Rattle.tcl_interp.specs.Rests.{standing_of}
use Rattle.tcl_interp.proofs.SimpleLemmas.{stays}
use Rattle.tcl_interp.specs.Finish.{GoesOn}
use Rattle.tcl_interp.specs.Moves.{moved, standing}
use Rattle.tcl_interp.specs.Rests.{left_in, waits_of}
use Rattle.tcl_interp.proofs.onward.run_known.Goals as goal

pub returns-in_default-clause-ok : goal.returns-in_default-clause-ok
returns-in_default-clause-ok g c = λ shows.
    stays g.T.Tasks.outside (standing (moved (GoesOn c.args.from.room (left_in c.args.from) c.args.previous) (waits_of c.args.frames.now.items)) c.args.scopes.now c.args.context.now) shows
