use Rattle.tcl_text.specs.ListCommands.{joined}
use Rattle.tcl_text.proofs.LengthLemmas.{refused_long}
use Rattle.tcl_text.proofs.commands.lists.joined_answer.Goals as goal

pub returns-in_default : goal.returns-in_default
returns-in_default c = refused_long c.limit_reached.result (joined c.args.between.now c.args.items.now) c.in_default.ensures.none c.limit_reached.ensures
