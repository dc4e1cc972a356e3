use Rattle.std.proofs.Common.{length}
use Rattle.tcl_words.proofs.Steps.{start_any, command_finish}
use Rattle.tcl_words.proofs.read.finish.Goals as goal

pub returns-in-Start : goal.returns-in-Start
returns-in-Start c = start_any c.args.parts.now c.args.source.now c.args.place (length c.args.source.now) c.in-Start.is

pub returns-in_ok-end_command-in-Between : goal.returns-in_ok-end_command-in-Between
returns-in_ok-end_command-in-Between c = rw (c.in_ok-end_command-in-Between.ensures.ok, c.in-Between.is) (command_finish c.args.parts.now c.args.source.now (length c.args.source.now))
