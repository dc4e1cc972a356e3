use Rattle.tk_host.specs.Refusals.{RefusesLine, line_faults}
use Rattle.panels.proofs.Taken.{of_fault}
use Rattle.panels.proofs.playing.hand.Goals as goal

pub returns-in-Err-clause-refused : goal.returns-in-Err-clause-refused
returns-in-Err-clause-refused g c =
    rw c.refused.ensures (of_fault (RefusesLine c.args.host.now.held c.args.event.moment c.args.event.line) line_faults c.args.entry _ c.in-Err.fault c.in-Err.ensures.refused)
