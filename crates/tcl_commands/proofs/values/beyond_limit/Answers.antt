use Rattle.std.specs.List.{concat}
use Rattle.tcl_commands.proofs.ConcatLemmas.{beyond_value}
use Rattle.tcl_commands.proofs.values.beyond_limit.Goals as goal

pub returns-in-Ok : goal.returns-in-Ok
returns-in-Ok c = beyond_value c.limit_reached.result c.in-Ok._value (concat c.args.values.now) _ c.in-Ok.ensures c.requires.long c.limit_reached.ensures
