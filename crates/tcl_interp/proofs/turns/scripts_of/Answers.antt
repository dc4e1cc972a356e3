use Rattle.std.proofs.Common.{◌≡◌, IsOk}
use Rattle.tcl_table.specs.Source.{script_of}
use Rattle.tcl_interp.proofs.turns.scripts_of.Goals as goal

pub invariant_of-result-clause-body_read : goal.invariant_of-result-clause-body_read
invariant_of-result-clause-body_read c =
    let read : (c.in-Some.body ≡ c.args.looping.now.body) × IsOk (script_of c.in-Some.body) = rw c.in-Some.is at c.in_ok-body.ensures.script in
    read.1
