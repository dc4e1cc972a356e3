use Rattle.tcl_commands.proofs.PairsCut.{more_iterations, items_behind}
use Rattle.tcl_commands.proofs.laws.iterations_take_items.Goals as goal

pub returns-clause-more : goal.returns-clause-more
returns-clause-more c = more_iterations

pub returns-clause-items : goal.returns-clause-items
returns-clause-items c = items_behind
