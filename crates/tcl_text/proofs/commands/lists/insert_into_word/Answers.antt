use Rattle.tcl_text.specs.ListCommands.{inserted}
use Rattle.tcl_text.proofs.AnswerLemmas.{items_known}
use Rattle.tcl_text.proofs.commands.lists.insert_into_word.Goals as goal

pub returns-in-Some : goal.returns-in-Some
returns-in-Some c = items_known c.insert_into_kept.result c.args.list.now c.in-Some.kept.now (inserted c.args.index.now c.args.values.now) c.in-Some.ensures c.insert_into_kept.ensures
