use Rattle.tcl_text.specs.ListCommands.{range_of}
use Rattle.tcl_text.proofs.AnswerLemmas.{items_known}
use Rattle.tcl_text.proofs.commands.lists.range_of_word.Goals as goal

pub returns-in-Some : goal.returns-in-Some
returns-in-Some c = items_known c.range_of_kept.result c.args.list.now c.in-Some.kept.now (range_of c.args.first.now c.args.last.now) c.in-Some.ensures c.range_of_kept.ensures
